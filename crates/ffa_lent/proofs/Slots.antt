-- SPDX-License-Identifier: MIT OR Apache-2.0
-- `Slot` as a pointer to a box. Assumes `Logic`.
use Rattle.ffa_lent.proofs.Steps.{◌≡◌, [], ◌∷◌, ◌∙◌, Some, Struct-Pure, refl, sym, ap, id⊢, RattleType, u8, bare, vstruct, ⊑_refl, layout, Laws, array_laws, of_field, u8-laws, u8-copy, impl, tcons, tnil, dnil, vnil}
use denote.Array.{Array}
use denote.Struct.Field.{u8-field}
use denote.Struct.Owning.{shape, to}
use denote.Param.Shared.{copy_shared}
use Rattle.ffa_lent.specs.contracts.lent.Lent as lent
use Rattle.ffa_lent.specs.contracts.lent.LentAllocator.TheImpl.{ghosts, dict}
use Rattle.ffa_lent.specs.contracts.slot.Slot as slot
use Rattle.ffa_lent.specs.Places.{slot_of}
use Rattle.ffa_lent.proofs.lent.Lent.TheLaws as lent_laws
use Rattle.ffa_lent.proofs.slot.Slot.TheLaws.{lowers}
use Rattle.ffa_lent.proofs.Pointers.{Handle, Pointer}
-- what its functions' proofs cite
pub use Rattle.ffa_lent.proofs.Pointers.{allocator, close_met, content, content_laws, none_met, open_met}
pub use Rattle.ffa_lent.proofs.Steps.{ftrue, glues, sem}
pub use Rattle.ffa_lent.proofs.lent.LentAllocator.TheImpl.Met.{passed}

abbrev pub Page : RattleType
Page = Array u8 4096

abbrev pub page_laws : Laws Page
page_laws = array_laws u8 (of_field u8-field u8-laws refl (copy_shared u8-field u8-copy)) 4096

abbrev pub lender : Handle
lender = record {
  A = lent.the_row;
  laws = lent_laws.the_row_laws;
  lasts = ⊑_refl [];
  pure = λ a vs. (Struct-Pure (shape lent.the_type) tt (to lent.the_type a) vs, tt);
  R = lent.the_row;
  into = λ a. a;
  into_one = λ a b same. same;
  plain = λ a vs. (Struct-Pure (shape lent.the_type) tt (to lent.the_type a) vs, tt);
  ghosts = ghosts;
  dict = dict;
  drops = impl ("ffa_lent::Destruct++none::drop" ∷ []) (tcons (bare (layout lent.the_row)) tnil) dnil;
  hand = vstruct vnil;
  fits = (tt, tt);
  is = λ a. ((tt, (refl, tt)), tt);
  is_field = λ a. ((tt, (refl, tt)), tt);
  tells = lent_laws.lowers.val_is;
  unseen = λ a. (tt, (λ w. tt));
}

abbrev pub to_page : Pointer lender
to_page = record {
  name = slot.the_type.name;
  S = slot.the_row;
  V = Page.Denot;
  out = λ d. (d.at, (d.lent, d.bytes));
  into = λ x. record { at = x.0; lent = x.1.0; bytes = x.1.1 };
  back = λ x. refl;
  Y = Page;
  laws = page_laws;
  drops = impl ("ffa_lent::Destruct++none::drop" ∷ []) (tcons (layout Page) tnil) dnil;
  inner = λ v. v;
  none = refl;
  new = Some;
  same = λ v x. v ≡ Some x;
  has = λ v there. there;
  right = λ v x there is. is;
  Shut = λ b d. d ≡ slot_of b;
  shut = λ b p at. ap (λ q. record { at = q; lent = b.alloc; bytes = Some b.value }) at;
  Opened = λ d b. d ≡ slot_of b;
  opened = λ d b x there held at is from j. record { at = (at ∙ ap (λ (l : lent.the_row.Denot). l.at) (sym from)) j; lent = sym from j; bytes = (held ∙ ap Some (sym is)) j };
  again = λ {M} {𝓤} 𝓛 holds p x. id⊢ 𝓤 _;
  mir = refl;
  tells = lowers.val_is;
  unseen = λ d. ((tt, (tt, tt)), (λ w. tt));
  spent = λ b. ((tt, (tt, tt)), (λ w. tt));
  lasts = ⊑_refl [];
  behind = λ holds p x. refl;
  own = λ d vs. refl;
}
