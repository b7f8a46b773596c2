-- SPDX-License-Identifier: MIT OR Apache-2.0
-- Two states that differ in bytes of pages alone.
use Rattle.std.proofs.Common.{◌≡◌, ◌∙◌, ℕ, ◌/◌, Bool, true, false, length, sym, ap, subst}
use Rattle.ffa_model.specs.Access.{access}
use Rattle.ffa_model.specs.State.{State, is_known, page_at}
use Rattle.ffa_model.proofs.Accesses.{length-map_at}
use Rattle.ffa_laws.specs.Readable.{blank_where}
use Rattle.ffa_laws.specs.Reads.{AreBeside}
use Rattle.ffa_laws.proofs.Blanks.{access-b, page-b}
use Rattle.ffa_spmc.specs.Unowned.{IsNoTable}
use Rattle.ffa_stage2.specs.Tables.{IsAside}

-- where RAM begins, and the tables
abbrev pub placement : State → ℕ × ℕ
placement s = (s.ram_base, s.tables)

module _ (s t : State) (named : ℕ → Bool) (beside : AreBeside s t named) where
  pub beside-base : t.ram_base ≡ s.ram_base
  beside-base = ap (λ (u : State). u.ram_base) (sym beside.same)

  pub beside-known : (e : ℕ) → is_known s e ≡ true → is_known t e ≡ true
  beside-known e known = ap (λ (u : State). is_known u e) (sym beside.same) ∙ known

  pub beside-access : (e p : ℕ) → access t e p ≡ access s e p
  beside-access e p = sym (access-b t named e p) ∙ ap (λ (u : State). access u e p) (sym beside.same) ∙ access-b s named e p

  pub beside-size : length t.pages ≡ length s.pages
  beside-size =
      sym (length-map_at (λ p page. blank_where (named p) page) t.pages) ∙ ap (λ (u : State). length u.pages) (sym beside.same)
      ∙ length-map_at (λ p page. blank_where (named p) page) s.pages

  -- where RAM and the tables begin
  pub beside-placed : placement t ≡ placement s
  beside-placed = ap placement (sym beside.same)

  pub beside-tables : (p : ℕ) → IsNoTable s p → IsNoTable t p
  beside-tables p aside =
      subst (λ z. z) (λ i. IsAside (length (beside.same i).parties) (beside.same i).tables (sym beside-size i / 512) p) aside

  -- a page that isn't named
  pub beside-page : (p : ℕ) → named p ≡ false → page_at t p ≡ page_at s p
  beside-page p off =
      sym (page-b t named p ∙ ap (λ (b : Bool). blank_where b (page_at t p)) off) ∙ ap (λ (u : State). page_at u p) (sym beside.same)
      ∙ page-b s named p ∙ ap (λ (b : Bool). blank_where b (page_at s p)) off

-- one after another
pub beside-both : (s t u : State) (named : ℕ → Bool) → AreBeside s t named → AreBeside t u named → AreBeside s u named
beside-both s t u named one other = record { same = one.same ∙ other.same; whole = λ p. other.whole p ∙ one.whole p }
