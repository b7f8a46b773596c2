-- SPDX-License-Identifier: MIT OR Apache-2.0
use Rattle.std.proofs.Common.{ℕ, List, ◌++◌, refl, subst, sym, arith}
use Rattle.ffa_model.specs.RelinquishDescriptor.{Relinquish}
use Rattle.ffa_model.specs.ResponseBytes.{le}
use Rattle.ffa_memdesc.specs.Writing.{Wrote}
use Rattle.ffa_memdesc.proofs.Writes.{front_of, rest_of, wrote_start, two, four, eight}
use Rattle.play_trace.specs.Composed.{relinquish_bytes}
use Rattle.play_trace.proofs.Relinquishes.{flag_cast, relinquishes}
use Rattle.play_trace.proofs.relinquish.write_relinquish.Goals as goal

pub returns : goal.returns
returns c =
    let old = c.args.page.now in
    let w1 = eight _ _ _ _ 0 8 _ refl (wrote_start old) c.put_u64.ensures in
    let w2 = four _ _ _ _ 8 12 _ refl w1 c.put_u32.ensures in
    let flag = subst (λ (x : ℕ). Wrote old (le 8 c.args.desc.now.handle ++ le 4 x) 12 c.put_u32.new.out) (flag_cast c.args.desc.now.zero) w2 in
    let w3 = four _ _ _ _ 12 16 _ refl flag c.put_u32-2.ensures in
    let all : Wrote old (relinquish_bytes c.args.desc.now) 18 c.put_u16.new.out = two _ _ _ _ 16 18 _ refl w3 c.put_u16.ensures in
    record {
      size = refl;
      read = subst (λ (l : List ℕ). Relinquish l c.args.desc.now) (sym (front_of _ _ _ _ all)) (relinquishes c.args.desc.now (omega arith) (omega arith));
      rest = rest_of _ _ _ _ all;
    }
