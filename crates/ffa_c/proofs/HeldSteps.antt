-- SPDX-License-Identifier: MIT OR Apache-2.0
-- `Held` and `HeldList` as pointers to boxes. Assumes `Logic`.
use Rattle.ffa_lent.proofs.Steps.{◌≡◌, ◌∙◌, sym, ap, [], ◌∷◌, Option, None, Some, IsSome, refl, id⊢, sem, ⊑_refl, ‵, ◌$◌, ◌∵◌, !, qed, done, keep, nothing, Ptr, Fml, ent, Ty, impl, tnil, dnil, Ura, Logic}
use Rattle.std.proofs.lemmas.Bool.{false≢true}
use Rattle.std.specs.Box.Ownership.{box_owns}
use Rattle.ffa_lent.specs.Slots.{slot_owns}
use Rattle.ffa_c.specs.Boarded.{Boarded, seated}
use Rattle.ffa_c.specs.contracts.seat.Seat.{the_row as Seat}
use Rattle.ffa_c.proofs.seat.Seat.TheLaws.{the_row_laws as seat_laws}
use Rattle.ffa_c.specs.contracts.held.Held as held
use Rattle.ffa_c.proofs.held.Held.TheLaws.{lowers as held_lowers}
use Rattle.ffa_c.specs.contracts.lent_list.LentList.{the_row as LentList}
use Rattle.ffa_c.proofs.lent_list.LentList.TheLaws.{the_row_laws as list_laws}
use Rattle.ffa_c.specs.contracts.held_list.HeldList as held_list
use Rattle.ffa_c.proofs.held_list.HeldList.TheLaws.{lowers as list_lowers}
use Rattle.ffa_lent.proofs.Pointers.{Pointer}
-- what their functions' proofs cite
pub use Rattle.ffa_lent.proofs.Pointers.{allocator, close_met, content, content_laws, mut_met, none_met, open_met}
pub use Rattle.ffa_lent.proofs.Steps.{fact, ftrue, glues, triple_of}
pub use Rattle.std.proofs.impls.GlobalAllocator.TheImpl.Met.{passed}
pub use Rattle.ffa_c.proofs.Heap.{drop_met, keeper}
pub use denote.Triple.Table.{widened}
pub use mir.Syntax.{method, no_args}

abbrev pub to_list : Pointer keeper
to_list = record {
  name = held_list.the_type.name;
  S = held_list.the_row;
  V = LentList.Denot;
  out = λ d. (d.at, (d.alloc, d.value));
  into = λ x. record { at = x.0; alloc = x.1.0; value = x.1.1 };
  back = λ x. refl;
  Y = LentList;
  laws = list_laws;
  drops = impl ("ffa_c::ffa_c++lent_list++LentList+Destruct::drop" ∷ []) tnil dnil;
  inner = λ v. v;
  none = refl;
  new = Some;
  same = λ v x. v ≡ Some x;
  has = λ v there. there;
  right = λ v x there is. is;
  Shut = λ b d. d.value ≡ Some b.value;
  shut = λ b p said. refl;
  Opened = λ d b. d.value ≡ Some b.value;
  opened = λ d b x there held said is from. held ∙ ap Some (sym is);
  again = λ {M} {𝓤} 𝓛 holds p x. id⊢ 𝓤 _;
  mir = refl;
  tells = list_lowers.val_is;
  unseen = λ d. (tt, (λ w. tt));
  spent = λ b. (tt, (λ w. tt));
  lasts = ⊑_refl [];
  behind = λ holds p x. refl;
  own = λ d vs. refl;
}

-- behind the pointer to a machine is its seat, with the machine in it
pub has-seat : (v : Option Boarded) → IsSome v → IsSome (seated v)
has-seat None there = absurd (false≢true there)
has-seat (Some b) there = refl

pub in-seat : (v x : Option Boarded) → IsSome v → seated v ≡ Some x → x ≡ v
in-seat None x there is = absurd (false≢true there)
in-seat (Some b) x there is = cc

-- with whatever is left in the seat, the pointer owns it
pub owned-again : {M : Type 1} {𝓤 : Ura M} (𝓛 : Logic 𝓤) (holds : Ty → Ptr → Fml) (p : Ptr) (x : Option Boarded) → ent 𝓤 (sem 𝓛 (box_owns holds Seat p x)) (sem 𝓛 (slot_owns holds Seat p (seated x)))
owned-again 𝓛 holds p None = qed 𝓛 (‵ (box_owns holds Seat p None) ∷ []) ∵ keep ! [] $ nothing ! $ done !
owned-again {𝓤 = 𝓤} 𝓛 holds p (Some b) = id⊢ 𝓤 _

abbrev pub to_seat : Pointer keeper
to_seat = record {
  name = held.the_type.name;
  S = held.the_row;
  V = Boarded;
  out = λ d. (d.at, (d.alloc, d.value));
  into = λ x. record { at = x.0; alloc = x.1.0; value = x.1.1 };
  back = λ x. refl;
  Y = Seat;
  laws = seat_laws;
  drops = impl ("ffa_c::ffa_c++seat++Seat+Destruct::drop" ∷ []) tnil dnil;
  inner = seated;
  none = refl;
  new = λ x. x;
  same = λ v x. x ≡ v;
  has = has-seat;
  right = in-seat;
  Shut = λ b d. d.value ≡ b.value;
  shut = λ b p said. refl;
  Opened = λ d b. b.value ≡ d.value;
  opened = λ d b x there held said is from. is ∙ in-seat d.value x there held;
  again = owned-again;
  mir = refl;
  tells = held_lowers.val_is;
  unseen = λ d. (tt, (λ w. tt));
  spent = λ b. (tt, (λ w. tt));
  lasts = ⊑_refl [];
  behind = λ holds p x. refl;
  own = λ d vs. refl;
}
