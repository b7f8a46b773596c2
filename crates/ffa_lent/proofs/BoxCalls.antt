-- SPDX-License-Identifier: MIT OR Apache-2.0
-- The calls that take a box apart and put one together, as steps of a walk. Assumes `Logic`.
use Rattle.ffa_lent.proofs.Steps.{◌≡◌, List, [], ◌∷◌, id⊢, ftrue, flft, full_share, Val, fact, ‵, raw, ◌⊛◌, some, later, ◌$◌, move, drop, use0, use1, split, join, pick, await, feq_i, feq_l, refl, ap, ◌∙◌, ◌++◌, only, fpick, fsplit, rewrite, ptr_val, block_ptr, ℕ, RattleType, Ptr, nothing, heard, triple_of, ◌⊑◌, vptr, vstruct, of_list, Al, handle_tells, SProp, emp, param, Fun, fact_i, type_at, Args, Dict, Ura, Item, Goal, Soaks, Seq, Step, step, Logic, Fits, token}
use denote.Triple.Clauses.{Lasts, lasts}
use denote.Triple.Statement.{Contract}
use prog.Memory.{Memory}
use prog.Routine.{Routine}
use Rattle.ffa_lent.proofs.Owners.{block_of}
use Rattle.std.specs.Box.{box_allocator}
use Rattle.std.specs.Box.Ownership.{box_owns}
use Rattle.std.specs.contracts.boxed.Box.{the_row as Box}
use Rattle.std.specs.contracts.boxed.Box.from_raw as joins
use Rattle.std.specs.contracts.boxed.Box.into_raw_with_allocator as parts

module _ {M : Type 1} {𝓤 : Ura M} (𝓛 : Logic 𝓤) where
  -- that two lifetimes are alive which never end
  abbrev pub Tokens : Item 𝓤
  Tokens = ‵ (flft [] full_share) ⊛ ‵ (flft [] full_share) ⊛ ‵ ftrue

module _ {M : Type 1} {𝓤 : Ura M} {𝓛 : Logic 𝓤} {K : Type 0} {Γ : List (Item 𝓤)} {G : Goal 𝓤 𝓛.H} where
  tokens_in : K → Step K 𝓛 (Tokens 𝓛 ∷ Γ) G Γ G
  tokens_in t = step (λ s. let alive = 𝓛.lfts.lft-nil full_share in
      nothing t $ use0 𝓛 (‵ (flft [] full_share)) alive $ join t $ use0 𝓛 (‵ (flft [] full_share)) alive $ join t $ s)

  -- a fact beside what is at the head
  holds_in : K → {φ : Type 0} {i : Item 𝓤} → φ → Step K 𝓛 ((raw (fact 𝓤 φ) ⊛ i) ∷ Γ) G (i ∷ Γ) G
  holds_in t {φ} x = step (λ s. use0 𝓛 (raw (fact 𝓤 φ)) (fact_i 𝓤 φ (emp 𝓤) x) $ join t $ s)

module _ (Y : RattleType) (A : Al) {M : Type 1} {𝓤 : Ura M} (𝓛 : Logic 𝓤) (memory : Memory → SProp 𝓤) (run : Routine → Fun 𝓤) where
  -- `Box::from_raw`, at any value and any place
  abbrev pub Joins : Contract 𝓤
  Joins = triple_of 𝓛 (joins.signature Y A.row A.g A.d A.drops) (joins.spec Y A.row A.g A.d A.drops 𝓛 memory run)

  abbrev pub at_joins : A.row.Denot → Ptr → Y.Denot → List Val → Joins.Ghost
  at_joins a p x hand = ((([], ([], tt)), (full_share, (full_share, tt)), tt, (a, (p, tt)), (hand, (ptr_val p ∷ [], tt))), x)

  abbrev pub Joined : RattleType
  Joined = type_at (joins.signature Y A.row A.g A.d A.drops).result ([], ([], tt))

  -- `Box::into_raw_with_allocator`, where the drop of a value is `d`
  abbrev pub Parts : Dict → Contract 𝓤
  Parts d = triple_of 𝓛 (parts.signature Y A.row A.g A.d A.drops d) (parts.spec Y A.row A.g A.d A.drops d 𝓛 memory run)

  abbrev pub Boxed : RattleType
  Boxed = Box (param 0 Y) (param 1 A.row) A.g

  abbrev pub Parted : Dict → RattleType
  Parted d = type_at (parts.signature Y A.row A.g A.d A.drops d).result ([], ([], tt))

  abbrev pub at_parts : (d : Dict) → Boxed.Denot → List Val → (Parts d).Ghost
  at_parts d page word = ((([], ([], tt)), (full_share, (full_share, tt)), tt, (page, tt), (word, tt)), tt)

module _ (Y : RattleType) (A : Al) {M : Type 1} {𝓤 : Ura M} {𝓛 : Logic 𝓤} {K : Type 0} {Γ : List (Item 𝓤)} {G : Goal 𝓤 𝓛.H} (memory : Memory → SProp 𝓤) (run : Routine → Fun 𝓤) where
  pub joins_in : K → [] ⊑ Y.lives → [] ⊑ A.row.lives → (a : A.row.Denot) (p : Ptr) (x : Y.Denot) (hand : List Val)
      → Step K 𝓛 (raw ((Joins Y A 𝓛 memory run).pre (at_joins Y A 𝓛 memory run a p x hand)) ∷ Γ) G (‵ (box_owns (token A a) (param 0 Y) p x) ∷ ‵ (A.row.own_val a hand) ∷ Γ) G
  joins_in t long long' a p x hand = step (λ s. let pre = (Joins Y A 𝓛 memory run).pre (at_joins Y A 𝓛 memory run a p x hand) in
      holds_in t long' $ holds_in t long $ move t (1 ∷ []) $
      nothing t $ feq_i t (List Val) (ptr_val p ∷ []) (ptr_val p ∷ []) refl $ join t $ move t (1 ∷ 0 ∷ []) $ join t $
      tokens_in t $ join t $
      join t $ use1 𝓛 (raw pre) (id⊢ 𝓤 pre) $ s)

  pub joins_out : K → Soaks G → (a : A.row.Denot) (p : Ptr) (x : Y.Denot) (hand : List Val) (v : Val)
      → let B = Joined Y A 𝓛 memory run in ((r : B.Denot) → r.value ≡ x → r.alloc ≡ a → Seq K 𝓛 (‵ (B.own_val r (v ∷ [])) ∷ Γ) G)
      → Seq K 𝓛 (raw ((Joins Y A 𝓛 memory run).post (at_joins Y A 𝓛 memory run a p x hand) v) ∷ Γ) G
  joins_out t soaks a p x hand v k =
      let B = Joined Y A 𝓛 memory run in let T = joins.ended Y A.row A.g A.d A.drops in let args : Args T.signature ([], ([], tt)) = (a, (p, tt)) in
      use1 𝓛 (later (some (λ (r : B.Denot). (Tokens 𝓛 ⊛ ‵ (B.own_val r (v ∷ [])))
      ⊛ some (λ (ws : Lasts T ([], ([], tt)) args). ‵ (lasts T ([], ([], tt)) args ws) ⊛ raw (fact 𝓤 (r.value ≡ x)) ⊛ raw (fact 𝓤 (box_allocator r ≡ a)))))) (id⊢ 𝓤 _) $
      await t soaks $ pick t (λ r. split t $ split t $ drop t $ move t (1 ∷ []) $ pick t (λ ws. split t $ drop t $ split t $ heard t _ (λ same. heard t _ (λ from. k r same from))))

  pub parts_in : K → [] ⊑ Y.lives → [] ⊑ A.row.lives → (d : Dict) → let B = Boxed Y A 𝓛 memory run in (owner : B.Denot) (word : List Val)
      → Step K 𝓛 (raw ((Parts Y A 𝓛 memory run d).pre (at_parts Y A 𝓛 memory run d owner word)) ∷ Γ) G (‵ (B.own_val owner word) ∷ Γ) G
  parts_in t long long' d owner word = step (λ s. let pre = (Parts Y A 𝓛 memory run d).pre (at_parts Y A 𝓛 memory run d owner word) in
      nothing t $ move t (1 ∷ 0 ∷ []) $ join t $
      tokens_in t $ join t $
      nothing t $ holds_in t long' $ holds_in t long $ move t (1 ∷ []) $
      join t $ use1 𝓛 (raw pre) (id⊢ 𝓤 pre) $ s)

  pub parts_out : K → Soaks G → (d : Dict) → let B = Boxed Y A 𝓛 memory run in (owner : B.Denot) (word : List Val) (v : Val)
      → ((b o : ℕ) (hand : Val) → v ≡ vstruct (of_list (vptr b o ∷ hand ∷ [])) → Fits A hand
      → Seq K 𝓛 (‵ (box_owns (token A owner.alloc) (param 0 Y) (block_ptr b o) owner.value) ∷ ‵ (A.row.own_val owner.alloc (hand ∷ [])) ∷ Γ) G)
      → Seq K 𝓛 (raw ((Parts Y A 𝓛 memory run d).post (at_parts Y A 𝓛 memory run d owner word) v) ∷ Γ) G
  parts_out t soaks d owner word v k =
      let R = Parted Y A 𝓛 memory run d in let T = parts.ended Y A.row A.g A.d A.drops d in let args : Args T.signature ([], ([], tt)) = (owner, tt) in
      use1 𝓛 (later (some (λ (r : R.Denot). (Tokens 𝓛 ⊛ ‵ (R.own_val r (v ∷ [])))
      ⊛ some (λ (ws : Lasts T ([], ([], tt)) args). ‵ (lasts T ([], ([], tt)) args ws) ⊛ raw (fact 𝓤 (r.1 ≡ owner.alloc)) ⊛ ‵ (box_owns (token A owner.alloc) (param 0 Y) r.0 owner.value))))) (id⊢ 𝓤 _) $
      await t soaks $ pick t (λ r. split t $ split t $ drop t $ move t (1 ∷ []) $ pick t (λ ws. split t $ drop t $ split t $ heard t _ (λ same. move t (1 ∷ []) $
      fpick t (λ vss. fsplit t $ feq_l t (λ struct. fsplit t $ feq_l t (λ pointer. fsplit t $ move t (1 ∷ []) $ drop t $
      rewrite t 0 (λ (a : A.row.Denot). ‵ (A.row.own_val a vss.1.0)) same refl $
      handle_tells A t owner.alloc vss.1.0 (λ hand handle fits. move t (1 ∷ []) $
      block_of t (token A owner.alloc) (param 0 Y) r.0 owner.value (λ b o at.
      let word : List Val → List Val → Val = λ ps hs. vstruct (of_list (ps ++ (hs ++ []))) in
      k b o hand (ap only struct ∙ ap (λ (ps : List Val). word ps vss.1.0) (pointer ∙ ap (λ (p : Ptr). ptr_val p ∷ []) at) ∙ ap (word (vptr b o ∷ [])) handle) fits))))))))
