-- SPDX-License-Identifier: MIT OR Apache-2.0
-- What others write while an operation is done.
use Rattle.std.proofs.Common.{◌≡◌, ◌∙◌, ℕ, ◌+◌, ◌-◌, ◌*◌, ◌/◌, ◌%◌, ◌^◌, ◌<◌, ◌≤◌, true, false, cond, refl, ap, sym, subst, arith, List, ◌∷◌, length, Option, Some, None, Ok, Err, inl, inr, ◌⊎◌, is_some}
use Rattle.std.specs.Prelude.{is_ok, nat_le, nat_lt, ◌&&◌}
use Rattle.std.specs.Option.{option_and_then}
use Rattle.std.proofs.lemmas.Bool.{false≢true, leb-true}
use Rattle.std.proofs.lemmas.Bool.Decides.{nat_tests}
use Rattle.ffa_model.specs.declared.leaf.Leaf.{Leaf}
use Rattle.ffa_model.specs.declared.rights.Rights.{Rights}
use Rattle.ffa_model.specs.Access.{access, right_of, transaction_at}
use Rattle.ffa_model.specs.Agreement.{Agrees, blocks_of}
use Rattle.ffa_model.specs.Identifiers.{identifier}
use Rattle.ffa_model.specs.Manifest.{root_of, table_pages}
use Rattle.ffa_model.specs.Memory.{access_at}
use Rattle.ffa_model.specs.Ram.{Ram}
use Rattle.ffa_model.specs.SoundState.{IsSoundState}
use Rattle.ffa_model.specs.State.{State, Page, page_at as page_of_state}
use Rattle.ffa_model.specs.Walk.{Answer, mapped_answer, walk}
use Rattle.ffa_physmem.specs.Moments.{Adds, Only, Past, Step, TurnsIn}
use Rattle.ffa_physmem.proofs.Moments.{Adds-none, Only-both, Only-each, Only-map}
use Rattle.ffa_stage2.specs.Amid.{Amid, Moment, behind}
use Rattle.ffa_stage2.specs.Held.{HeldBetween}
use Rattle.ffa_stage2.specs.Mixed.{MixedBetween}
use Rattle.ffa_stage2.specs.Mixtures.{page_at}
use Rattle.ffa_stage2.specs.Moments.{walk_at}
use Rattle.ffa_stage2.specs.Rest.{RestIn}
use Rattle.ffa_stage2.specs.Tables.{HasRoom, IsAside}
use Rattle.ffa_stage2.proofs.Amid.{Along, Leads, LeadsBehind, along-amid, held-amid, held-rest, leads-mixed, mixed-rest, rest-amid, walks-amid}
use Rattle.ffa_stage2.proofs.Kept.{HasRoom-kept}
use Rattle.ffa_stage2.proofs.Rest.{Only-turn}
use Rattle.ffa_spmc.specs.Amid.{EndsAmid, StandsAmid, StaysAmid}
use Rattle.ffa_spmc.specs.Unowned.{IsNoTable, OwnsNoTables}
use Rattle.ffa_spmc.proofs.Besides.{placement}

-- a walk gives the access
pub seen : (x : State) (ram : Ram) (tables b e a : ℕ) → Agrees ram x → x.tables ≡ tables → blocks_of x ≡ b → e < length x.parties → a < 2 ^ 32
    → walk_at ram tables b e a ≡ mapped_answer (access_at x (identifier e) a) a
seen x ram tables b e a agrees place blocks he ha =
    ap (λ (c : ℕ). walk ram (root_of c tables b e) a) agrees.place ∙ ap (λ (t : ℕ). walk ram (root_of x.ram_base t b e) a) (sym place)
    ∙ ap (λ (k : ℕ). walk ram (root_of x.ram_base x.tables k e) a) (sym blocks) ∙ agrees.walks e a he ha

-- the tables of a sound state have room
pub room-of : (s : State) (ram : Ram) → IsSoundState s → Agrees ram s → HasRoom ram (length s.parties) s.tables (blocks_of s)
room-of s ram sound agrees =
    let (k, size, some, few, has) = sound.sized.blocks in
    let blocks : blocks_of s ≡ k = omega (arith, size) in
    let place : ram.base ≡ s.ram_base = agrees.place in
    let ok = sound.sized.base in
    let aligned : s.ram_base % 0x200000 ≡ 0 = grind (arith, nat_tests, ok) in
    let high : s.ram_base + 4096 * length s.pages ≤ 2 ^ 32 = sound.sized.within in
    let one : s.ram_base % 2 ^ 30 + 4096 * length s.pages ≤ 2 ^ 30 = sound.sized.one_table in
    let same_one : ram.base % 2 ^ 30 ≡ s.ram_base % 2 ^ 30 = ap (λ (c : ℕ). c % 2 ^ 30) place in
    record {
      place = subst (λ (c : ℕ). c % 0x200000 ≡ 0) (sym place) aligned;
      one_table = omega (arith, blocks, size, same_one, one);
      few = omega (arith, blocks, few);
      within = omega (arith, blocks, size, place, high);
      size = agrees.size ∙ size ∙ ap (λ (x : ℕ). 512 * x) (sym blocks);
      room = subst (λ (x : ℕ). s.tables + length s.parties * table_pages x ≤ 512 * x) (sym blocks) (leb-true (s.tables + length s.parties * table_pages k) (512 * k) has);
    }

phys_of : Answer → ℕ
phys_of (Ok leaf) = leaf.phys
phys_of (Err fault) = 0

-- where a walk leads somewhere, there is a right, and it leads to the address itself
leaf-of : (r : Option Rights) (a : ℕ) (leaf : Leaf) → mapped_answer r a ≡ Ok leaf → (is_some r ≡ true) × (leaf.phys ≡ a)
unfolding mapped_answer phys_of
leaf-of None a leaf is = absurd (false≢true (ap (λ (x : Answer). is_ok x) is))
leaf-of (Some r) a leaf is = (refl, sym (ap phys_of is))

-- a walk leads to no page of the tables
leaf-aside : (x : State) (ram : Ram) (e a : ℕ) (leaf : Leaf) → Agrees ram x → OwnsNoTables x → e < length x.parties → a < 2 ^ 32 → walk_at ram x.tables (blocks_of x) e a ≡ Ok leaf
    → IsNoTable x ((leaf.phys - x.ram_base) / 4096)
leaf-aside x ram e a leaf agrees none he ha leads =
    let (some, at) = leaf-of (access_at x (identifier e) a) a leaf (sym (seen x ram x.tables (blocks_of x) e a agrees refl refl he ha) ∙ leads) in
    subst (λ (c : ℕ). IsNoTable x ((c - x.ram_base) / 4096)) (sym at)
    (elim (nat_le x.ram_base a && nat_lt a (2 ^ 32)) as (λ c. is_some (option_and_then (access x (identifier e)) (cond c (Some ((a - x.ram_base) / 4096)) None)) ≡ true
    → IsNoTable x ((a - x.ram_base) / 4096)) [
      | true ↦ of ((a - x.ram_base) / 4096)
      | false ↦ λ no. absurd (false≢true no)
    ] some)
  where
    by : (q : ℕ) (o : Option Page) → page_of_state x q ≡ o → is_some (right_of (identifier e) o (transaction_at x q)) ≡ true → IsNoTable x q
    by q None is some = absurd (false≢true some)
    by q (Some page) is some = none q page is

    of : (q : ℕ) → is_some (access x (identifier e) q) ≡ true → IsNoTable x q
    of q some = by q (page_of_state x q) refl some

module _ (s t : State) (old new : Ram) (was : Agrees old s) (is : Agrees new t) (parties : length t.parties ≡ length s.parties) (placed : placement t ≡ placement s)
    (size : length t.pages ≡ length s.pages) (sound : IsSoundState s) (none : OwnsNoTables s) (none' : OwnsNoTables t) (past later : Past) (turns : TurnsIn new later)
    (rest : RestIn old (length s.parties) s.tables (blocks_of s) past) (rest' : RestIn new (length s.parties) s.tables (blocks_of s) later)
    (mixed : Only past later (λ h step. MixedBetween old new (length s.parties) s.tables (blocks_of s) (step ∷ h) step.after))
    (between : Only past later (λ h step. HeldBetween old new (length s.parties) s.tables (blocks_of s) (step ∷ h) step.after)) where
  abbrev n : ℕ
  n = length s.parties

  abbrev tables : ℕ
  tables = s.tables

  abbrev b : ℕ
  b = blocks_of s

  base : t.ram_base ≡ s.ram_base
  base = ap (λ (at : ℕ × ℕ). at.0) placed

  place : t.tables ≡ s.tables
  place = ap (λ (at : ℕ × ℕ). at.1) placed

  room : HasRoom old n tables b
  room = room-of s old sound was

  stays : new.base ≡ old.base
  stays = is.place ∙ base ∙ sym was.place

  room' : HasRoom new n tables b
  room' = HasRoom-kept old new n tables b room stays (is.size ∙ size ∙ sym was.size)

  far : (e a : ℕ) (leaf : Leaf) → e < n → a < 2 ^ 32 → (walk_at old tables b e a ≡ Ok leaf) ⊎ (walk_at new tables b e a ≡ Ok leaf) → IsAside n tables b (page_at old leaf.phys)
  far e a leaf he ha (inl led) = subst (λ (c : ℕ). IsAside n tables b ((leaf.phys - c) / 4096)) (sym was.place) (leaf-aside s old e a leaf was none he ha led)
  far e a leaf he ha (inr led) =
      let there = leaf-aside t new e a leaf is none' (subst (λ (k : ℕ). e < k) (sym parties) he) ha ((λ i. walk_at new (place i) (size i / 512) e a) ∙ led) in
      subst (λ (c : ℕ). IsAside n tables b ((leaf.phys - c) / 4096)) (base ∙ sym was.place)
      (subst (λ z. z) (λ i. IsAside (parties i) (place i) (size i / 512) ((leaf.phys - t.ram_base) / 4096)) there)

  abbrev Leading : List Step → Step → Type 0
  Leading h step = LeadsBehind old new n tables b h step

  leading : Only past later Leading
  leading = Only-map (Only-turn new turns (Only-both mixed between)) (λ h step its.
      let (turn, both) = its in
      (turn, leads-mixed old new step.after n tables b (step ∷ h) turn both.0, both.1))

  module _ (g : List Step) (there : past.steps ≡ Some g) (alone memory : Moment) (written : List ℕ) (amid : Amid n tables b (record { history = g; ram = old }) alone memory written) where
    first-leads : Leads old new n tables b g old
    first-leads = leads-mixed old new old n tables b g (rest g there).turn (mixed-rest old new n tables b g room stays (rest g there))

    first-between : HeldBetween old new n tables b g old
    first-between = held-rest old new n tables b g room (rest g there)

    along : Adds past.steps Leading alone.history → Along old new n tables b g (rest g there).begun (rest g there).turn first-leads first-between far alone memory written
    along adds =
        along-amid old new n tables b g (rest g there).begun (rest g there).turn first-leads first-between far alone memory written amid
        (subst (λ (o : Option (List Step)). Adds o Leading alone.history) there adds)

    stands-now : Adds past.steps Leading alone.history → StandsAmid old new n tables b alone memory written
    stands-now adds = record {
      theirs = (along adds).theirs;
      beside = (along adds).beside;
      bytes = (along adds).bytes;
      held = held-amid old new n tables b g (rest g there).begun (rest g there).turn first-leads first-between far alone memory written (along adds);
    }

  module _ (g h : List Step) (there : past.steps ≡ Some g) (last : later.steps ≡ Some h) (memory : Moment) (written : List ℕ)
      (amid : Amid n tables b (record { history = g; ram = old }) (record { history = h; ram = new }) memory written) where
    ends-now : EndsAmid new n tables b memory
    ends-now =
        let along = along g there (record { history = h; ram = new }) memory written amid (leading.each h last) in
        record {
          walks = walks-amid old new n tables b g (rest g there).begun (rest g there).turn (first-leads g there (record { history = h; ram = new }) memory written amid)
              (first-between g there (record { history = h; ram = new }) memory written amid) far room' h memory written (rest' h last) along;
          rest = rest-amid old new n tables b g (rest g there).begun (rest g there).turn (first-leads g there (record { history = h; ram = new }) memory written amid)
              (first-between g there (record { history = h; ram = new }) memory written amid) far room' h memory written (rest' h last) along;
        }

  pub stays-amid : StaysAmid s old new past later
  stays-amid = record {
    first = λ h there g is memory written amid. stands-now g is (record { history = h; ram = old }) memory written amid (Adds-none past.steps Leading h there);
    steps = Only-map (Only-each leading) (λ h step adds g is memory written amid. stands-now g is (behind step h) memory written amid adds);
    ended = λ h last g is memory written amid. (
      stands-now g is (record { history = h; ram = new }) memory written amid (leading.each h last),
      ends-now g h is last memory written amid,
    );
  }
