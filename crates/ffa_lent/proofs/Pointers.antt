-- SPDX-License-Identifier: MIT OR Apache-2.0
-- The functions of a struct that is a pointer to a box, or null, meet their contracts, whatever is in the box.
-- Beside the pointer stands the handle of the box's allocator. A function's code is written here as the compiler makes it, so a proof by
-- computation finds it to be the same. Assumes `Logic`.
use Rattle.ffa_lent.proofs.Steps.{◌≡◌, ◌⊑◌, ℕ, List, [], ◌∷◌, ◌++◌, Option, None, Some, IsSome, refl, sym, ap, ◌∙◌, lit<, ftrue, Val, vptr, vstruct, of_list, fact, tables, WpFn, proved, proved_at, ‵, raw, ◌⊛◌, prop, at_ret, ◌$◌, ◌∵◌, !, qed, done, move, keep, use1, drop, split, fsplit, fjoin, join, rewrite, regoal, suffices, group, enter, of_opd, lit, stop, fld, no_more, and_then, first, blocks, exec, returns, alloc_all, pass_all, free_all, look_at, get, get_in, sets, lands_as, lands_last, env, agg, sub, whole, yes, Ptr, RawPtr, block_ptr, null_ptr, ptr_val, RattleType, owns, plain, nothing, owned, peeks, heard, Is, shows, calls_at, calls_at_last, framed, Stays, walk_of, says, stay_dropped, Goes-blank, ends_at, handle_tells, sem, Al, flft, full_share, id⊢, bare, lone, named, later, some, await, pick, Fml, GName, fsep, SProp, ent, sep, MachineTables, Running, Last, left, no, cell_at, mem, part_at, arg, layout, param, Laws, arg_laws, MutRef, mut_vals, mut_Tells, mut_ref_to, opens, RawPtr-plain, Shape, Struct, Struct-Makes, as_fields, Seq, fact_use, given, learn, guard_i, Pure, shadow, shows_shadow, makes_shadow, Meets, Goes-spent_ref, Body, Callee, Dict, Fn, Sym, Ty, addr_of, aggregate, assign, block, call, copy, deref, erased, field, int, local, mut, place, return, rv_opd, seq, tcons, tnil, ty_ptr, ty_ref, ty_struct, value_local, w64, WT, has_ty, Closed, Ura, through, sets_last, Goal, Item, Step, fpack, frame, fsplit3, step, Logic, look_in, addr, load}
use Rattle.std.specs.declared.alloc.Allocator.{Ghosts}
use Rattle.ffa_lent.proofs.BoxCalls.{Parts, at_parts, parts_in, parts_out, Joins, at_joins, joins_in, joins_out}
use Rattle.ffa_lent.proofs.Owners.{as_handle, slot_out}
use Rattle.ffa_lent.specs.Slots.{slot_owns}
use Rattle.std.proofs.boxed.Box.TheLaws.{the_row_laws as boxes_laws}
use Rattle.std.specs.Borrow.{Lends}
use Rattle.std.specs.Box.Ownership.{box_owns}
use Rattle.std.specs.contracts.boxed.Box.{the_row as Box}
use denote.Memory.{part_of}
use denote.Follow.{Part, follows, lends_Part}
use denote.Param.Mute.{blank}
use denote.Struct.Field.{Field, RawPtr-field, rows}
use denote.Struct.Tuple.{tuple_type}
use denote.Struct.Values.{intos}
use denote.Triple.Clauses.{Ended, Clauses, closing}
use denote.Triple.Statement.{Triple}
use lib.Dec.{T}
use mathlib.Core.List.{map}
use prog.Erase.{raw-raw}
use mathlib.Core.Path.{subst}
use prog.Model.{Model}

-- a type as a type argument
abbrev pub argument : RattleType → RattleType
argument R = arg (bare (layout R)) no R

abbrev Good : Ty → Val → Type 0
Good τ v = T (has_ty τ v) × WT v

-- of a value that is used up nothing is seen
abbrev pub Unseen : RattleType → Type 0
Unseen R = (x : R.Denot) → Last (R.exit yes) x × ((w : Last (R.exit yes) x) → T (blank (left (R.exit yes) x w)))

-- an allocator whose handle is one machine value
pub record Handle : Type 2 where
  pub A : RattleType
  pub laws : Laws A
  pub lasts : [] ⊑ A.lives
  pub pure : (a : A.Denot) (vs : List Val) → Pure (A.own_val a vs)
  -- as a field of a struct
  pub R : RattleType
  pub into : A.Denot → R.Denot
  pub into_one : (a b : A.Denot) → into a ≡ into b → a ≡ b
  pub plain : (a : R.Denot) (vs : List Val) → Pure (R.own_val a vs)
  pub ghosts : Ghosts A.Denot
  pub dict : Dict
  pub drops : Dict
  pub hand : Val
  pub fits : Good (layout A) hand
  pub is : (a : A.Denot) → Is A a (hand ∷ [])
  pub is_field : (a : A.Denot) → Is R (into a) (hand ∷ [])
  pub tells : (a : A.Denot) (vs : List Val) → Is A a vs → vs ≡ hand ∷ []
  pub unseen : Unseen A

module _ (N : Handle) where
  abbrev pub allocator : Al
  allocator = record { row = argument N.A; laws = arg_laws (bare (layout N.A)) no N.A N.laws (raw-raw (layout N.A)); g = N.ghosts; d = N.dict; drops = N.drops }

  abbrev pub parts : List Field
  parts = RawPtr-field ∷ record { row = N.R; Value = N.A.Denot; into = N.into; into_one = N.into_one } ∷ []

  -- what the right to give memory back says
  abbrev pub Says : N.A.Denot → RattleType → Ptr → Type 0
  Says a Y p = shadow (N.ghosts.dealloc_token a (bare (lone Y.mir)) p)

  abbrev pub shape_of : Sym → Shape
  shape_of name = record { name = name; args = []; types = []; fields = rows parts }

  abbrev pub fields_own : Sym → Ptr → N.A.Denot → List Val → Fml
  fields_own name p a = (Struct (shape_of name)).own_val (intos parts (p, (a, tt)))

  abbrev pub word : Ptr → Val
  word p = vstruct (of_list (ptr_val p ∷ N.hand ∷ []))

  -- such a struct of this name
  abbrev pub laid : Sym → Ty
  laid name = ty_struct name (tcons ty_ptr (tcons (layout N.A) tnil))

pub record Pointer (N : Handle) : Type 2 where
  -- the struct, and the fields of a value
  pub name : Sym
  pub S : RattleType
  pub V : Type 0
  pub out : S.Denot → Ptr × (N.A.Denot × Option V)
  pub into : Ptr × (N.A.Denot × Option V) → S.Denot
  pub back : (x : Ptr × (N.A.Denot × Option V)) → out (into x) ≡ x
  -- what is in the box, and what the struct's value says of it
  pub Y : RattleType
  pub laws : Laws Y
  pub drops : Dict
  pub inner : Option V → Option Y.Denot
  pub none : inner None ≡ None
  pub new : Y.Denot → Option V
  pub same : Option V → Y.Denot → Type 0
  pub has : (v : Option V) → IsSome v → IsSome (inner v)
  -- what closing a box promises, and opening one
  pub Shut : (Box Y N.A N.ghosts).Denot → S.Denot → Type 0
  pub shut : (b : (Box Y N.A N.ghosts).Denot) (p : Ptr) → Says N b.alloc Y p → Shut b (into (p, (b.alloc, new b.value)))
  pub Opened : S.Denot → (Box Y N.A N.ghosts).Denot → Type 0
  pub opened : (d : S.Denot) (b : (Box Y N.A N.ghosts).Denot) (x : Y.Denot) → IsSome (out d).1.1 → inner (out d).1.1 ≡ Some x → Says N (out d).1.0 Y (out d).0 → b.value ≡ x → b.alloc ≡ (out d).1.0 → Opened d b
  pub right : (v : Option V) (x : Y.Denot) → IsSome v → inner v ≡ Some x → same v x
  pub again : {M : Type 1} {𝓤 : Ura M} (𝓛 : Logic 𝓤) (holds : Ty → Ptr → Fml) (p : Ptr) (x : Y.Denot) → ent 𝓤 (sem 𝓛 (box_owns holds Y p x)) (sem 𝓛 (slot_owns holds Y p (inner (new x))))
  -- what holds by computation
  pub mir : S.mir ≡ laid N name ∷ []
  pub tells : (d : S.Denot) (vs : List Val) → Is S d vs → vs ≡ word N (out d).0 ∷ []
  pub unseen : Unseen S
  pub spent : Unseen (Box Y N.A N.ghosts)
  pub lasts : [] ⊑ Y.lives
  pub behind : (holds : Ty → Ptr → Fml) (p : Ptr) (x : Y.Denot) → box_owns holds (param 0 (argument Y)) p x ≡ box_owns holds Y p x
  pub own : (d : S.Denot) (vs : List Val) → S.own_val d vs ≡ fsep (fields_own N name (out d).0 (out d).1.0 vs) (slot_owns (N.ghosts.dealloc_token (out d).1.0) Y (out d).0 (inner (out d).1.1))

-- what a formula says that is no resource
module _ {M : Type 1} {𝓤 : Ura M} {𝓛 : Logic 𝓤} {K : Type 0} {Γ : List (Item 𝓤)} {G : Goal 𝓤 𝓛.H} where
  shown : K → (φ : Fml) → (shadow φ → Seq K 𝓛 (‵ φ ∷ Γ) G) → Seq K 𝓛 (‵ φ ∷ Γ) G
  shown t φ k = use1 𝓛 (given (shadow φ) (‵ φ)) (fact_use 𝓤 (shadow φ) (shows_shadow 𝓛 φ) (λ told. guard_i 𝓤 (shadow φ) (sem 𝓛 φ) told)) $ learn t k

module _ (N : Handle) (P : Pointer N) where
  abbrev Fields : Type 0
  Fields = Ptr × (N.A.Denot × Option P.V)

  abbrev value : P.S.Denot → Option P.V
  value d = (P.out d).1.1

  abbrev shape : Shape
  shape = shape_of N P.name

  abbrev heap : Fields → Fml
  heap x = slot_owns (N.ghosts.dealloc_token x.1.0) P.Y x.0 (P.inner x.1.1)

  abbrev all_of : Fields → List Val → Fml
  all_of x vs = fsep (fields_own N P.name x.0 x.1.0 vs) (heap x)

  abbrev vals : P.S.Denot → List Val
  vals d = word N (P.out d).0 ∷ []

  abbrev pub content : RattleType
  content = argument P.Y

  abbrev pub content_laws : Laws content
  content_laws = arg_laws (bare (layout P.Y)) no P.Y P.laws (raw-raw (layout P.Y))

  abbrev owner : RattleType
  owner = Box P.Y N.A N.ghosts

  abbrev owner_laws : Laws owner
  owner_laws = boxes_laws P.Y N.A N.ghosts P.laws N.laws

  -- a function of one parameter, which it uses up
  abbrev using : RattleType → RattleType → Ended
  using X R = record { signature = record { lifetimes = 0; outlives = []; params = plain (λ _. X) ∷ []; result = plain (λ _. R) }; kept = (yes, tt) }

  abbrev asks : {M : Type 1} {𝓤 : Ura M} (X R : RattleType) → (X.Denot → SProp 𝓤) → (X.Denot → R.Denot → Type 0) → Clauses 𝓤 (using X R)
  asks {𝓤 = 𝓤} X R φ ψ κs a = record { ghost = Unit {0}; requires = λ _. φ a.0; ensures = λ _ r _. fact 𝓤 (ψ a.0 r) }

  abbrev function : ℕ → List Ty → Body → Fn
  function lifetimes types body =
      record { lifetimes = lifetimes; outlives = []; ty_params = []; givens = 0; params = 1; locals = map (λ τ. local τ value_local) types; body = body }

  abbrev none_fn : Fn
  none_fn = function 0 (laid N P.name ∷ layout N.A ∷ []) (seq (assign (place 0 []) (aggregate (int w64 0 ∷ copy (place 1 []) ∷ []))) return)

  abbrev close_fn : Callee → Fn
  close_fn taking = function 0 (laid N P.name ∷ layout owner ∷ ty_ptr ∷ layout N.A ∷ laid N (tuple_type (RawPtr ∷ N.A ∷ [])).name ∷ layout owner ∷ ty_ptr ∷ [])
      (seq (assign (place 5 []) (rv_opd (copy (place 1 [])))) (seq (call taking (copy (place 5 []) ∷ []) (place 4 []))
      (seq (assign (place 2 []) (rv_opd (copy (place 4 (field 0 ∷ []))))) (seq (assign (place 3 []) (rv_opd (copy (place 4 (field 1 ∷ [])))))
      (seq (assign (place 6 []) (rv_opd (copy (place 2 [])))) (seq (assign (place 0 []) (aggregate (copy (place 6 []) ∷ copy (place 3 []) ∷ []))) return))))))

  abbrev last_of : ℕ → Body
  last_of n = seq (assign (place 0 []) (rv_opd (copy (place n [])))) return

  abbrev open_fn : Callee → Fn
  open_fn making = function 0 (layout owner ∷ laid N P.name ∷ ty_ptr ∷ layout N.A ∷ layout owner ∷ ty_ptr ∷ [])
      (seq (assign (place 2 []) (rv_opd (copy (place 1 (field 0 ∷ []))))) (seq (assign (place 3 []) (rv_opd (copy (place 1 (field 1 ∷ [])))))
      (seq (block (seq (assign (place 5 []) (rv_opd (copy (place 2 [])))) (call making (copy (place 3 []) ∷ copy (place 5 []) ∷ []) (place 4 [])))) (last_of 4))))

  abbrev mut_fn : Ty → Ty → Ty → Fn
  mut_fn from to lent = function 1 (ty_ref (named 0) mut to ∷ ty_ref (named 0) mut from ∷ ty_ref erased mut to ∷ ty_ptr ∷ ty_ptr ∷ [])
      (seq (block (seq (assign (place 3 []) (rv_opd (copy (place 1 (deref (laid N P.name) ∷ field 0 ∷ []))))) (seq (assign (place 4 []) (rv_opd (copy (place 3 []))))
      (assign (place 2 []) (addr_of (place 4 (deref lent ∷ []))))))) (last_of 2))

  -- the same pointer, with this behind it
  abbrev put : P.S.Denot → P.Y.Denot → P.S.Denot
  put d w = P.into ((P.out d).0, ((P.out d).1.0, P.new w))

  abbrev lending : Ended
  lending = record { signature = record { lifetimes = 1; outlives = []; params = mut_ref_to (0 ∷ []) tt (plain (λ _. P.S)) ∷ []; result = mut_ref_to (0 ∷ []) tt (plain (λ _. P.Y)) }; kept = (no, tt) }

  abbrev lends : {M : Type 1} {𝓤 : Ura M} (𝓛 : Logic 𝓤) → Clauses 𝓤 lending
  lends {𝓤 = 𝓤} 𝓛 κs a = record {
    ghost = Unit {0};
    requires = λ _. fact 𝓤 (IsSome (value a.0.now));
    ensures = λ _ r _. sep 𝓤 (sem 𝓛 (Lends P.S P.Y a.0 r (put a.0.now))) (fact 𝓤 (P.same (value a.0.now) r.now));
  }

  two : (p : Ptr) (v : Val) → Good ty_ptr (ptr_val p) → Good (layout N.A) v → Good (laid N P.name) (vstruct (of_list (ptr_val p ∷ v ∷ [])))
  two p v g h = as_fields (ty_ptr ∷ layout N.A ∷ []) (ptr_val p ∷ v ∷ []) (g, (h, tt))

  module _ {M : Type 1} {𝓤 : Ura M} {𝓛 : Logic 𝓤} {K : Type 0} {Γ : List (Item 𝓤)} {G : Goal 𝓤 𝓛.H} where
    pub held_in : K → (x : Fields) → Step K 𝓛 (‵ (P.S.own_val (P.into x) (word N x.0 ∷ [])) ∷ Γ) G (‵ (heap x) ∷ Γ) G
    held_in t x = step (λ s.
        owned t (Struct shape) (Is (Struct shape)) (Struct-Makes 𝓛 shape (RawPtr-plain, (N.plain, tt))) (intos (parts N) (x.0, (x.1.0, tt))) (word N x.0 ∷ []) ((ptr_val x.0 ∷ [], (N.hand ∷ [], tt)), (refl, (refl, (N.is_field x.1.0, tt)))) $ fjoin t $
        rewrite t 0 (λ (φ : Fml). ‵ φ) (sym (P.own (P.into x) (word N x.0 ∷ []) ∙ ap (λ (y : Fields). all_of y (word N x.0 ∷ [])) (P.back x))) refl $ s)

  module _ {M : Type 1} (𝓤 : Ura M) (𝓛 : Logic 𝓤) (𝓜 : Model 𝓤 𝓛.H) (𝓡 : Running 𝓤 𝓛.H 𝓜) (k : Callee) where
    abbrev 𝓣 : MachineTables 𝓤 𝓛.H 𝓜
    𝓣 = tables 𝓤 𝓛.H 𝓜 𝓡 𝓡.env

    abbrev Does : Fn → Type 2
    Does f = Closed 𝓤 𝓛.H 𝓣.C 𝓣.Λ k f

    abbrev Met : (X R : RattleType) → (X.Denot → SProp 𝓤) → (X.Denot → R.Denot → Type 0) → Type 1
    Met X R φ ψ = Meets 𝓛 (using X R).signature (𝓣.C k) (closing 𝓛 (using X R) (asks X R φ ψ))

    pub none_met : Does none_fn → Met N.A P.S (λ _. sem 𝓛 ftrue) (λ _ r. value r ≡ None)
    none_met closed =
        let E = using N.A P.S in let hs : Stays E.signature.params E.kept = (stay_dropped _ yes, tt) in
        let c = asks N.A P.S (λ _. sem 𝓛 ftrue) (λ _ r. value r ≡ None) in let W = walk_of 𝓛 E hs c in
        proved 𝓛 E hs c 𝓜 𝓡 (Goes-blank 𝓛 0 (plain (λ _. N.A)) yes (λ κs x. (N.unseen x).1), tt) k none_fn closed
        (λ κs. ((λ a. N.hand ∷ []), tt)) (λ κs. (N.tells, tt)) (λ κs qs bounds a _ are.
        let y : W.Ghost = ((κs, qs, bounds, a, (N.hand ∷ [], tt)), tt) in let x : Fields = (null_ptr, (a.0, None)) in
        qed 𝓛 ((‵ ftrue ⊛ ‵ (owns (N.A ∷ []) a y.0.4)) ∷ ‵ ftrue ∷ []) ∵ drop ! $
        enter ! _ _ _ _ _ $ alloc_all ! (λ l. pass_all ! refl (N.fits, tt) $
        sets ! (agg ! (and_then ! (lit ! tt) (and_then ! (get ! refl) (no_more !)))) refl (two null_ptr N.hand (tt, record { fits = lit< tt }) N.fits) $
        returns ! (look_at ! 0 refl) $ free_all ! refl $
        suffices ! _ (ends_at 𝓛 E hs c y (word N null_ptr) (P.into x) ((N.unseen a.0).0, tt) (tt, tt)) $ says ! (ap (λ (z : Fields). z.1.1) (P.back x)) $
        rewrite ! 0 (λ (v : Option P.Y.Denot). ‵ (slot_owns (N.ghosts.dealloc_token a.0) P.Y null_ptr v)) (sym P.none) refl $ held_in ! x $
        nothing ! $ nothing ! $ join ! $ nothing ! $ group ! 3 $ done !))

    pub close_met : (asked : P.Y.Denot → SProp 𝓤) (taking : Callee) → Does (close_fn taking) → Triple 𝓤 (𝓣.C taking) (Parts content (allocator N) 𝓛 𝓜.mem 𝓡.returns P.drops)
        → Met owner P.S (λ b. asked b.value) P.Shut
    close_met asked taking closed m =
        let E = using owner P.S in let hs : Stays E.signature.params E.kept = (stay_dropped _ yes, tt) in
        let c = asks owner P.S (λ b. asked b.value) P.Shut in let W = walk_of 𝓛 E hs c in let M' = 𝓜.mem in let R = 𝓡.returns in
        proved_at 𝓛 E hs c 𝓜 𝓡 (Goes-blank 𝓛 0 (plain (λ _. owner)) yes (λ κs x. (P.spent x).1), tt) k (close_fn taking) closed (λ y are.
        let b = y.0.3.0 in
        qed 𝓛 ((‵ ftrue ⊛ ‵ (owns (owner ∷ []) y.0.3 y.0.4)) ∷ raw (asked b.value) ∷ []) ∵ split ! $ drop ! $ fsplit ! $
        handle_tells (as_handle owner owner_laws) ! b y.0.4.0 (λ v one fits. keep ! (0 ∷ []) $
        regoal ! (λ (vs : List Val). prop (WpFn 𝓤 𝓛.H 𝓣.C 𝓣.Λ (close_fn taking) (vs ++ []) (W.post y))) one refl $
        enter ! _ _ _ _ _ $ alloc_all ! (λ l. pass_all ! refl (fits, tt) $
        sets ! (of_opd ! (get ! refl)) refl fits $
        fsplit ! $ move ! (1 ∷ []) $ rewrite ! 0 (λ (φ : Fml). ‵ φ) (sym (P.behind (N.ghosts.dealloc_token b.alloc) b.ptr b.value)) refl $ move ! (1 ∷ 0 ∷ []) $ fjoin ! $
        parts_in content (allocator N) M' R ! P.lasts N.lasts P.drops b (v ∷ []) $
        calls_at ! (framed 𝓤 𝓛.H 𝓜 𝓣) (Parts content (allocator N) 𝓛 M' R P.drops) m (at_parts content (allocator N) 𝓛 M' R P.drops b (v ∷ [])) (and_then ! (get ! refl) (no_more !)) (λ pair.
        parts_out content (allocator N) M' R ! tt P.drops b (v ∷ []) pair (λ n o hand words _.
        move ! (1 ∷ []) $ peeks ! N.A (Is N.A) (shows 𝓛 N.A) b.alloc (hand ∷ []) (λ is. drop ! $
        let both = two (block_ptr n o) N.hand (tt, tt) N.fits in
        lands_as ! (words ∙ ap (λ (hs : List Val). vstruct (of_list (vptr n o ∷ hs))) (N.tells b.alloc (hand ∷ []) is)) refl both $
        sets ! (of_opd ! (get_in ! (fld ! refl (stop !)) (sub ! 0 refl (whole !)))) refl (tt, tt) $
        sets ! (of_opd ! (get_in ! (fld ! refl (stop !)) (sub ! 1 refl (whole !)))) refl N.fits $
        sets ! (of_opd ! (get ! refl)) refl (tt, tt) $
        sets ! (agg ! (and_then ! (get ! refl) (and_then ! (get ! refl) (no_more !)))) refl both $
        returns ! (look_at ! 0 refl) $ free_all ! refl $
        let x : Fields = (block_ptr n o, (b.alloc, P.new b.value)) in let holds = N.ghosts.dealloc_token b.alloc in
        rewrite ! 0 (λ (φ : Fml). ‵ φ) (P.behind holds x.0 b.value) refl $ shown ! (box_owns holds P.Y x.0 b.value) (λ told.
        suffices ! _ (ends_at 𝓛 E hs c y (word N x.0) (P.into x) ((P.spent b).0, tt) (tt, tt)) $ says ! (P.shut b x.0 told.1) $
        use1 𝓛 (‵ (heap x)) (P.again 𝓛 holds x.0 b.value) $ held_in ! x $
        nothing ! $ nothing ! $ join ! $ nothing ! $ group ! 3 $ done !)))))))

    pub open_met : (making : Callee) → Does (open_fn making) → Triple 𝓤 (𝓣.C making) (Joins content (allocator N) 𝓛 𝓜.mem 𝓡.returns)
        → Met P.S owner (λ d. fact 𝓤 (IsSome (value d))) P.Opened
    open_met making closed m =
        let E = using P.S owner in let hs : Stays E.signature.params E.kept = (stay_dropped _ yes, tt) in
        let c = asks P.S owner (λ d. fact 𝓤 (IsSome (value d))) P.Opened in let W = walk_of 𝓛 E hs c in let M' = 𝓜.mem in let R = 𝓡.returns in
        proved 𝓛 E hs c 𝓜 𝓡 (Goes-blank 𝓛 0 (plain (λ _. P.S)) yes (λ κs x. (P.unseen x).1), tt) k (open_fn making) closed
        (λ κs. (vals, tt)) (λ κs. (P.tells, tt)) (λ κs qs bounds a _ are.
        let d = a.0 in let x = P.out d in let holds = N.ghosts.dealloc_token x.1.0 in let y : W.Ghost = ((κs, qs, bounds, a, (vals d, tt)), tt) in
        qed 𝓛 ((‵ ftrue ⊛ ‵ (owns (P.S ∷ []) a y.0.4)) ∷ raw (fact 𝓤 (IsSome x.1.1)) ∷ []) ∵
        move ! (1 ∷ []) $ heard ! _ (λ there. split ! $ drop ! $ fsplit ! $
        rewrite ! 0 (λ (φ : Fml). ‵ φ) (P.own d (vals d)) refl $ fsplit ! $ drop ! $
        slot_out ! holds P.Y x.0 (P.inner x.1.1) (P.has x.1.1 there) (λ z held b o at. shown ! (box_owns holds P.Y (block_ptr b o) z) (λ told.
        regoal ! (λ (p : Ptr). prop (WpFn 𝓤 𝓛.H 𝓣.C 𝓣.Λ (open_fn making) (word N p ∷ []) (W.post y))) at refl $
        enter ! _ _ _ _ _ $ alloc_all ! (λ l. pass_all ! refl (two (block_ptr b o) N.hand (tt, tt) N.fits, tt) $
        sets ! (of_opd ! (get_in ! (fld ! refl (stop !)) (sub ! 0 refl (whole !)))) refl (tt, tt) $
        sets ! (of_opd ! (get_in ! (fld ! refl (stop !)) (sub ! 1 refl (whole !)))) refl N.fits $
        first ! $ blocks ! $
        sets ! (of_opd ! (get ! refl)) refl (tt, tt) $
        owned ! N.A (Is N.A) (λ h vs. makes_shadow 𝓛 (N.A.own_val h vs) (N.pure h vs)) x.1.0 (N.hand ∷ []) (N.is x.1.0) $ move ! (1 ∷ 0 ∷ []) $
        rewrite ! 0 (λ (φ : Fml). ‵ φ) (sym (P.behind holds (block_ptr b o) z)) refl $
        joins_in content (allocator N) M' R ! P.lasts N.lasts x.1.0 (block_ptr b o) z (N.hand ∷ []) $
        calls_at_last ! (framed 𝓤 𝓛.H 𝓜 𝓣) (Joins content (allocator N) 𝓛 M' R) m (at_joins content (allocator N) 𝓛 M' R x.1.0 (block_ptr b o) z (N.hand ∷ [])) (and_then ! (get ! refl) (and_then ! (get ! refl) (no_more !))) (λ v.
        joins_out content (allocator N) M' R ! tt x.1.0 (block_ptr b o) z (N.hand ∷ []) v (λ r is from.
        fsplit ! $ move ! (1 ∷ []) $ rewrite ! 0 (λ (φ : Fml). ‵ φ) (P.behind (N.ghosts.dealloc_token r.alloc) r.ptr r.value) refl $ move ! (1 ∷ 0 ∷ []) $ fjoin ! $
        peeks ! owner (Is owner) (shows 𝓛 owner) r (v ∷ []) (λ of. let fits = ((owner_laws.lawful 𝓛).typed r (v ∷ []) of).0 in
        lands_last ! refl fits $ exec ! 𝓣.C 𝓣.Λ (env (open_fn making).locals l) (last_of 4) (at_ret _ (W.post y)) $
        sets ! (of_opd ! (get ! refl)) refl fits $
        returns ! (look_at ! 0 refl) $ free_all ! refl $ keep ! (0 ∷ []) $
        suffices ! _ (ends_at 𝓛 E hs c y v r ((P.unseen d).0, tt) (tt, tt)) $ says ! (P.opened d r z there held (subst (Says N x.1.0 P.Y) (sym at) told.1) is from) $
        nothing ! $ nothing ! $ join ! $ nothing ! $ group ! 3 $ done !))))))))

    module _ (d : P.S.Denot) (us : List Val) (rb ro b o : ℕ) (at : (P.out d).0 ≡ block_ptr b o) where
      abbrev holds : Ty → Ptr → Fml
      holds = N.ghosts.dealloc_token (P.out d).1.0

      -- all but the content
      abbrev Rest : Fml
      Rest = fsep (fsep (holds (bare (lone P.Y.mir)) (block_ptr b o)) (fields_own N P.name (P.out d).0 (P.out d).1.0 us)) (cell_at full_share P.S.mir us rb ro)

      put_back : (w : P.Y.Denot) → ent 𝓤 (sep 𝓤 (sem 𝓛 ((mem P.Y).own_at w b o)) (sem 𝓛 Rest)) (sem 𝓛 ((mem P.S).own_at (put d w) rb ro))
      unfolding part_of
      put_back w =
          let x : Fields = ((P.out d).0, ((P.out d).1.0, P.new w)) in
          qed 𝓛 (‵ (part_at P.Y full_share w b o) ∷ ‵ Rest ∷ []) ∵ move ! (1 ∷ []) $ fsplit ! $ fsplit ! $ move ! (3 ∷ 0 ∷ []) $ fjoin ! $
          rewrite ! 0 (λ (p : Ptr). ‵ (box_owns holds P.Y p w)) (sym at) refl $ use1 𝓛 (‵ (heap x)) (P.again 𝓛 holds x.0 w) $ move ! (1 ∷ 0 ∷ []) $ fjoin ! $
          rewrite ! 0 (λ (φ : Fml). ‵ φ) (sym (P.own (P.into x) us ∙ ap (λ (z : Fields). all_of z us) (P.back x))) refl $ move ! (1 ∷ 0 ∷ []) $ fjoin ! $
          fpack ! (List Val) (λ vs. fsep (cell_at full_share P.S.mir vs rb ro) (P.S.own_val (put d w) vs)) us $ done !

    pub mut_met : (from to lent : Ty) → Does (mut_fn from to lent) → Meets 𝓛 lending.signature (𝓣.C k) (closing 𝓛 lending (lends 𝓛))
    mut_met from to lent closed =
        let hs : Stays lending.signature.params lending.kept = (stay_dropped (mut_ref_to (0 ∷ []) tt (plain (λ _. P.S))) no, tt) in
        let c = lends 𝓛 in let W = walk_of 𝓛 lending hs c in
        proved 𝓛 lending hs c 𝓜 𝓡 (Goes-spent_ref 𝓛 1 (0 ∷ []) tt (plain (λ _. P.S)), tt) k (mut_fn from to lent) closed
        (λ κs. (mut_vals, tt)) (λ κs. (mut_Tells (named 0) κs.0 P.S, tt)) (λ κs qs bounds a _ are.
        let κ = κs.0 in let q = qs.0 in let rb = a.0.ref_ptr.0 in let ro = a.0.ref_ptr.1 in let γ = a.0.ghost_name in let d = a.0.now in let v = value d in
        let y : W.Ghost = ((κs, qs, bounds, a, (mut_vals a.0, tt)), tt) in
        qed 𝓛 (((‵ (flft κ q) ⊛ ‵ ftrue) ⊛ ‵ (owns (MutRef (named 0) κ P.S ∷ []) a y.0.4)) ∷ raw (fact 𝓤 (IsSome v)) ∷ []) ∵
        move ! (1 ∷ []) $ heard ! _ (λ there. split ! $ split ! $ move ! (2 ∷ []) $ fsplit ! $ fsplit3 ! $ drop ! $ keep ! (0 ∷ 1 ∷ 3 ∷ []) $
        enter ! _ _ _ _ _ $ alloc_all ! (λ l. pass_all ! refl ((tt, tt), tt) $
        opens ! tt P.S rb ro (λ us. move ! (1 ∷ []) $ peeks ! P.S _ (shows 𝓛 P.S) d us (λ is. rewrite ! 0 (λ (φ : Fml). ‵ φ) (P.own d us) refl $ fsplit ! $ move ! (1 ∷ []) $
        slot_out ! (N.ghosts.dealloc_token (P.out d).1.0) P.Y (P.out d).0 (P.inner v) (P.has v there) (λ x what b o at. fsplit ! $
        let words = P.tells d us is ∙ ap (λ (p : Ptr). word N p ∷ []) at in
        let Cell = λ (ws : List Val). ‵ (cell_at full_share P.S.mir ws rb ro) in let Typed = λ (τs : List Ty). ‵ (cell_at full_share τs (word N (block_ptr b o) ∷ []) rb ro) in
        rewrite ! 3 Cell words refl $ rewrite ! 3 Typed P.mir refl $
        -- [the content; the right to free it; the fields; their cell; the open borrow, in three entries; the locals]
        first ! $ blocks ! $
        sets ! (of_opd ! (load ! (through ! refl (fld ! refl (stop !))) (look_in ! 3 (sub ! 0 refl (whole !))))) refl (tt, tt) $
        sets ! (of_opd ! (get ! refl)) refl (tt, tt) $
        sets_last ! (addr ! (through ! refl (stop !))) refl (tt, tt) $
        exec ! 𝓣.C 𝓣.Λ (env (mut_fn from to lent).locals l) (last_of 2) (at_ret _ (W.post y)) $
        sets ! (of_opd ! (get ! refl)) refl (tt, tt) $
        rewrite ! 3 Typed (sym P.mir) refl $ rewrite ! 3 Cell (sym words) refl $
        move ! (1 ∷ 2 ∷ []) $ fjoin ! $ move ! (0 ∷ 2 ∷ []) $ fjoin ! $ move ! (2 ∷ 3 ∷ 4 ∷ 1 ∷ 0 ∷ []) $ group ! 5 $
        let back = put_back d us rb ro b o at in let Left = sem 𝓛 (Rest d us rb ro b o at) in let was = P.S.coded.code d in
        use1 𝓛 (later (some (λ (γ' : GName). raw (Part 𝓛 P.S P.Y (put d) (named 0) κ q rb ro b o γ Left back x γ'))))
        (lends_Part 𝓛 P.S P.Y (put d) (named 0) κ q rb ro b o γ Left back was was x) $ await ! tt $ pick ! (λ γ'.
        returns ! (look_at ! 0 refl) $ free_all ! refl $ keep ! (0 ∷ []) $
        let r : (MutRef (named 0) κ P.Y).Denot = record { ref_ptr = (b, o); ghost_name = γ'; now = x } in
        use1 𝓛 (‵ ((MutRef (named 0) κ P.Y).own_val r (vptr b o ∷ [])) ⊛ (‵ (flft κ q) ⊛ ‵ (follows P.S P.Y γ γ' (put d)))) (id⊢ 𝓤 _) $
        split ! $ move ! (1 ∷ []) $ split ! $ move ! (2 ∷ []) $
        suffices ! _ (ends_at 𝓛 lending hs c y (vptr b o) r (tt, tt) (tt, tt)) $
        nothing ! $ nothing ! $ fjoin ! $ join ! $ nothing ! $ move ! (2 ∷ 0 ∷ []) $ join ! $ join ! $ frame ! $ says ! (P.right v x there what) $ done !)))))))
