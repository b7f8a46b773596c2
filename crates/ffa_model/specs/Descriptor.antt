-- SPDX-License-Identifier: MIT OR Apache-2.0
-- The stage 2 descriptors that the manager writes (DDI 0487, D8.3).
use Rattle.std.specs.Prelude.{ℕ, ◌+◌, ◌*◌, ◌^◌, if◌then◌else◌, Option, None, Some}
use Rattle.ffa_model.specs.Bits.{bits}
use Rattle.ffa_model.specs.Rights.{may_write}
use Rattle.ffa_model.specs.declared.rights.Rights.{Rights}

-- a page of level 3: type 11 in bits 1:0, MemAttr 1111 in 5:2, S2AP in 7:6, SH 11 in 9:8, AF in 10, the address in
-- 47:12, XN in 54. No right is the word 0
unfoldable pub page_word : ℕ → Option Rights → ℕ
page_word address None = 0
page_word address (Some r) =
    bits 47 12 address * 2 ^ 12 + (3 + 15 * 2 ^ 2 + 2 ^ 6 + 3 * 2 ^ 8 + 2 ^ 10)
    + (if may_write r.level then 2 ^ 7 else 0) + (if r.exec then 0 else 2 ^ 54)

-- a table at a page's address: type 11, and the address in 47:12
abbrev pub table_word : ℕ → ℕ
table_word address = address + 3
