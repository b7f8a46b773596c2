-- SPDX-License-Identifier: MIT OR Apache-2.0
-- Bytes in an endpoint's RX: they stand in a page of its own, and the state has them as RAM does.
use Rattle.std.proofs.Common.{◌≡◌, ◌∙◌, ℕ, ◌<◌, true, false, List, length, Option, Some, None, refl, sym, subst, zero, suc, ◌+◌, ◌-◌, ◌≤◌, [], take, drop, ap, arith, length-set, get_or-set_other}
use Rattle.std.specs.Prelude.{IsSomeAnd, is_some, nat_le}
use Rattle.std.specs.Option.{option_map}
use Rattle.std.proofs.lemmas.Bool.{and_parts, false≢true, leb-true}
use Rattle.ffa_stage2.specs.Tables.{IsAside}
use Rattle.ffa_stage2.proofs.Places.{not-both}
use Rattle.ffa_model.proofs.Runs.{run-wider, to-run}
use Rattle.ffa_model.proofs.CallAccesses.{access-written_run}
use Rattle.ffa_model.specs.declared.rights.Rights.{Rights}
use Rattle.ffa_model.specs.Ram.{Ram, page_of, with_bytes, with_page}
use Rattle.ffa_model.specs.Memory.{written_run}
use Rattle.ffa_model.specs.Identifiers.{identifier}
use Rattle.ffa_model.specs.Lists.{is_in_run}
use Rattle.ffa_model.specs.Access.{handle_at, access, ownership_of}
use Rattle.ffa_model.specs.Buffers.{buffers_in, buffers_with_rx, filled, filled_pages, is_usable}
use Rattle.ffa_model.specs.First.{first}
use Rattle.ffa_model.specs.State.{State, Page, Buffers, is_known, is_known_among, page_at, owner_of}
use Rattle.ffa_rxtx.specs.Parts.{with_rx_bytes, IsInRam, with_run}
use Rattle.ffa_memshare.specs.Callers.{IsCaller}
use Rattle.ffa_laws.proofs.SoundSteady.{runner-known}
use Rattle.ffa_spmc.specs.Meaning.{IsManager, Parts, state_of, HasTables, access_by_place}
use Rattle.ffa_spmc.proofs.Held.{each, parties_are, size_is, owned-aside}
use Rattle.ffa_spmc.proofs.Machines.{StillHasTables}
use Rattle.ffa_spmc.proofs.Reaches.{owned-in}
use Rattle.ffa_spmc.proofs.Stores.{state-written}
use Rattle.ffa_spmc.proofs.MemoryParts.{memory_in}
use Rattle.ffa_model.proofs.Own.{usable-parts}
use Rattle.ffa_model.specs.Rights.{may_store}

-- the pages of f's buffers are owned by f
pub record AreThere (s : State) (f : ℕ) (b : Buffers) : Type 0 where
  pub some : 1 ≤ b.pages
  pub tx : (p : ℕ) → is_in_run b.tx b.pages p ≡ true → (page : Page) × (page_at s p ≡ Some page)
  pub rx : (p : ℕ) → is_in_run b.rx b.pages p ≡ true → (page : Page) × (page_at s p ≡ Some page)
  pub tx_owner : (p : ℕ) → is_in_run b.tx b.pages p ≡ true → owner_of s p ≡ f
  pub rx_owner : (p : ℕ) → is_in_run b.rx b.pages p ≡ true → owner_of s p ≡ f

module _ (x : Parts) (machine : IsManager x) where
  abbrev s : State
  s = state_of x

  -- a page that an endpoint owns
  abbrev pub IsThere : ℕ → Type 0
  IsThere p = (page : Page) × (page_at s p ≡ Some page)

  usable-there : (e p : ℕ) → is_usable e (ownership_of s) p ≡ true → IsThere p
  usable-there e p usable = of (page_at s p) refl
    where
      of : (o : Option Page) → page_at s p ≡ o → IsThere p
      of None at = absurd (false≢true (sym (ap (λ (o : Option Page). may_store (option_map (λ (q : Page). q.own_right) o)) at) ∙ (and_parts _ _ usable).1))
      of (Some page) at = (page, at)

  -- is a page of RAM
  pub there-inside : (p : ℕ) → IsThere p → p < length x.ram.pages
  there-inside p there = subst (λ (n : ℕ). p < n) (size_is x) (owned-in s p there.0 there.1)

  -- and the endpoint's own
  usable-owner : (e p : ℕ) → is_usable e (ownership_of s) p ≡ true → owner_of s p ≡ e
  usable-owner e p usable = (usable-parts s e p usable).0

  -- which no open transaction names
  usable-unnamed : (e p : ℕ) → is_usable e (ownership_of s) p ≡ true → is_some (handle_at s p) ≡ false
  usable-unnamed e p usable = ap is_some (usable-parts s e p usable).1

  -- the pages of an endpoint's buffers
  pub buffers-there : (f : ℕ) → is_known s f ≡ true → (b : Buffers) → buffers_in x.kept.buffers f ≡ Some b → AreThere s f b
  buffers-there f known b is =
      let sound = machine.sound.buffers f b known is in
      record {
        some = leb-true 1 b.pages (and_parts (nat_le 1 b.pages) _ sound.count).0;
        tx = λ p its. usable-there f p (sound.tx p its);
        rx = λ p its. usable-there f p (sound.rx p its);
        tx_owner = λ p its. usable-owner f p (sound.tx p its);
        rx_owner = λ p its. usable-owner f p (sound.rx p its);
      }

  -- no open transaction names a page of RX
  pub rx-unnamed : (f : ℕ) → is_known s f ≡ true → (b : Buffers) → buffers_in x.kept.buffers f ≡ Some b → (p : ℕ) → is_in_run b.rx b.pages p ≡ true
      → is_some (handle_at s p) ≡ false
  rx-unnamed f known b is p its = usable-unnamed f p ((machine.sound.buffers f b known is).rx p its)

  -- pages in a row that are there are pages of RAM
  run-inside : (first n : ℕ) → 1 ≤ n → ((p : ℕ) → is_in_run first n p ≡ true → IsThere p) → first + n ≤ length x.ram.pages
  run-inside first n some there =
      let last : first + (n - 1) < length x.ram.pages =
      there-inside (first + (n - 1)) (there (first + (n - 1)) (to-run first n (first + (n - 1)) (omega arith) (omega (arith, some)))) in
      omega (arith, last, some)

  pub in-ram : (f : ℕ) → is_known s f ≡ true → (b : Buffers) → buffers_in x.kept.buffers f ≡ Some b → IsInRam (length x.ram.pages) b
  in-ram f known b is =
      let there = buffers-there f known b is in
      record { some = there.some; tx = run-inside b.tx b.pages there.some there.tx; rx = run-inside b.rx b.pages there.some there.rx }

  -- the runner, as the code has it, is an endpoint
  pub runner-there : (e : ℕ) → e ≡ x.kept.chain.runner → is_known s e ≡ true
  runner-there e at = subst (λ (r : ℕ). is_known s r ≡ true) (sym at) (runner-known s machine.sound)

  -- and one that may have buffers
  pub known-buffered : (e : ℕ) → is_known s e ≡ true → is_known_among (length x.kept.buffers) e ≡ true
  known-buffered e known = subst (λ (n : ℕ). is_known_among n e ≡ true) (parties_are x ∙ sym (each x machine)) known

  -- what calls with a descriptor in TX ask of their caller
  pub caller-is : (e : ℕ) → e ≡ x.kept.chain.runner → IsCaller (memory_in x) x.kept.buffers e
  caller-is e at =
      subst (λ (n : ℕ). IsCaller (record (memory_in x) { endpoints = n }) x.kept.buffers e) (parties_are x ∙ sym machine.layout.endpoints)
      (record {
        some = machine.sound.sized.some;
        few = machine.sound.sized.few;
        known = runner-there e at;
        size = machine.sound.sized.buffers;
        inside = λ b is. in-ram e (runner-there e at) b is;
      })

  -- bytes in pages in a row of RAM, none of them a table's, leave the tables as they are
  abbrev rights : ℕ → ℕ → Option Rights
  rights = access_by_place s

  run-tables : (n : ℕ) (ram : Ram) (first : ℕ) (bytes : List ℕ) → HasTables ram x.manifest rights
      → ((p : ℕ) → is_in_run first n p ≡ true → IsAside (length x.manifest.endpoints.items) x.manifest.tables.0 x.manifest.ram_blocks p)
      → HasTables (with_run n ram first bytes) x.manifest rights
  run-tables zero ram first bytes tables aside = tables
  run-tables (suc n) ram first bytes tables aside =
      run-tables n next (first + 1) (drop 4096 bytes)
      (record {
        base = tables.base;
        size = size ∙ tables.size;
        built =
            machine.laws.stay ram next (length x.manifest.endpoints.items) x.manifest.tables.0 x.manifest.ram_blocks rights tables.built
            (record {
              base = refl;
              size = size;
              pages = λ q from low. get_or-set_other ram.pages first q content []
                  (λ same. not-both (length x.manifest.endpoints.items) x.manifest.tables.0 x.manifest.ram_blocks q (from, low) (subst (IsAside (length x.manifest.endpoints.items) x.manifest.tables.0 x.manifest.ram_blocks) (sym same) there));
            });
      })
      (λ p its. aside p (run-wider first n p its))
    where
      content : List ℕ
      content = with_bytes (page_of ram first) 0 (take 4096 bytes)

      next : Ram
      next = with_page ram first content

      size : length next.pages ≡ length ram.pages
      size = length-set ram.pages first content

      there : IsAside (length x.manifest.endpoints.items) x.manifest.tables.0 x.manifest.ram_blocks first
      there = aside first (to-run first (suc n) first (omega arith) (omega arith))

  -- and are written in the state alike
  run-state : (n : ℕ) (ram : Ram) (first : ℕ) (bytes : List ℕ) → ((p : ℕ) → is_in_run first n p ≡ true → p < length ram.pages)
      → (state_of (record x { ram = with_run n ram first bytes })).pages ≡ written_run n (state_of (record x { ram = ram })).pages first bytes
  run-state zero ram first bytes inside = refl
  run-state (suc n) ram first bytes inside =
      run-state n (with_page ram first (with_bytes (page_of ram first) 0 (take 4096 bytes))) (first + 1) (drop 4096 bytes)
      (λ p its. subst (λ k. p < k) (sym (length-set ram.pages first (with_bytes (page_of ram first) 0 (take 4096 bytes)))) (inside p (run-wider first n p its)))
      ∙ ap (λ (pages : List (Option Page)). written_run n pages (first + 1) (drop 4096 bytes))
      (ap (λ (y : State). y.pages) (state-written (record x { ram = ram }) first 0 (take 4096 bytes) (inside first (to-run first (suc n) first (omega arith) (omega arith)))))

  module _ (f : ℕ) (known : is_known s f ≡ true) where
    pub rx-in-ram : (b : Buffers) → buffers_in x.kept.buffers f ≡ Some b → IsSomeAnd (buffers_in x.kept.buffers f) (λ b. IsInRam (length x.ram.pages) b)
    rx-in-ram b is = subst (λ (o : Option Buffers). IsSomeAnd o (λ b. IsInRam (length x.ram.pages) b)) (sym is) (in-ram f known b is)

    module _ (bytes : List ℕ) where
      abbrev pub after_fill : Parts
      after_fill = record x { ram = with_rx_bytes x.ram (buffers_in x.kept.buffers f) bytes; kept = record x.kept { buffers = buffers_with_rx x.kept.buffers f true } }

      filled-run : (b : Buffers) → buffers_in x.kept.buffers f ≡ Some b
          → (state_of (record x { ram = with_run b.pages x.ram b.rx bytes })).pages ≡ written_run b.pages s.pages b.rx bytes
      filled-run b is = run-state b.pages x.ram b.rx bytes (λ p its. there-inside p ((buffers-there f known b is).rx p its))

      -- the tables give the access that they gave
      pub tables-still : HasTables after_fill.ram x.manifest rights
      tables-still = of (buffers_in x.kept.buffers f) refl
        where
          of : (o : Option Buffers) → buffers_in x.kept.buffers f ≡ o → HasTables (with_rx_bytes x.ram o bytes) x.manifest rights
          of None is = machine.tables
          of (Some b) is =
              run-tables b.pages x.ram b.rx bytes machine.tables (λ p its. let (page, there) = (buffers-there f known b is).rx p its in owned-aside x machine p page there)

      pub tables-filled : StillHasTables x after_fill.ram
      tables-filled = of (buffers_in x.kept.buffers f) refl
        where
          of : (o : Option Buffers) → buffers_in x.kept.buffers f ≡ o → StillHasTables x (with_rx_bytes x.ram o bytes)
          of None is = machine.tables
          of (Some b) is =
              let same : (i q : ℕ) → rights i q ≡ access_by_place (state_of (record x { ram = with_run b.pages x.ram b.rx bytes })) i q = λ i q.
              sym (ap (λ (pages : List (Option Page)). access (record s { pages = pages }) (identifier i) q) (filled-run b is)
              ∙ access-written_run s b.pages s.pages b.rx bytes (identifier i) q) in
              subst (HasTables (with_run b.pages x.ram b.rx bytes) x.manifest) (λ k i q. same i q k)
              (run-tables b.pages x.ram b.rx bytes machine.tables (λ p its. let (page, there) = (buffers-there f known b is).rx p its in owned-aside x machine p page there))

      pub state-filled : state_of after_fill ≡ filled s f bytes
      unfolding first
      state-filled = of (buffers_in x.kept.buffers f) refl
        where
          of : (o : Option Buffers) → buffers_in x.kept.buffers f ≡ o → state_of (record after_fill { ram = with_rx_bytes x.ram o bytes }) ≡ filled s f bytes
          of None is = λ i. record s { pages = filled_pages s.pages bytes (sym is i); buffers = buffers_with_rx x.kept.buffers f true }
          of (Some b) is =
              (λ i. record s { pages = filled-run b is i; buffers = buffers_with_rx x.kept.buffers f true })
              ∙ (λ i. record s { pages = filled_pages s.pages bytes (sym is i); buffers = buffers_with_rx x.kept.buffers f true })
