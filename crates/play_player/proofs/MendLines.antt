-- SPDX-License-Identifier: MIT OR Apache-2.0
-- What stands in a reason behind what the check is about has no LF.
use Rattle.std.proofs.Common.{ℕ, ◌+◌, ◌-◌, ◌%◌, ◌^◌, Bool, true, false, List, ◌++◌, Option, None, Some, inl, inr, refl, ◌==◌, codes, nat_lt}
use Rattle.std.proofs.lemmas.Bool.{cases_Bool}
use Rattle.ffa_model.specs.declared.endpoint.EndpointId.{EndpointId}
use Rattle.ffa_model.specs.declared.endpoint.Version.{Version}
use Rattle.ffa_model.specs.declared.endpoint.Version.TheVariants.{Compact, V1_1, V1_2}
use Rattle.ffa_model.specs.declared.refusal.Refusal.{Refusal}
use Rattle.ffa_model.specs.declared.refusal.Refusal.TheVariants.{TxMisplaced, RxMisplaced}
use Rattle.ffa_model.specs.declared.rights.Data.{Data}
use Rattle.ffa_model.specs.declared.rights.Data.TheVariants.{Ro, Rw}
use Rattle.ffa_model.specs.declared.rights.Kind.{Kind}
use Rattle.ffa_model.specs.declared.rights.Kind.TheVariants.{Share}
use Rattle.ffa_model.specs.declared.rights.Rights.{Rights}
use Rattle.ffa_model.specs.declared.schedule.Status.{Status}
use Rattle.ffa_model.specs.declared.schedule.Status.TheVariants.{Running}
use Rattle.ffa_model.specs.declared.schedule.Work.{Work}
use Rattle.ffa_model.specs.declared.schedule.Work.TheVariants.{Run, Request}
use Rattle.ffa_mend.specs.declared.allowed.Allowed.{Allowed}
use Rattle.ffa_mend.specs.declared.Cause.{Cause}
use Rattle.ffa_mend.specs.declared.Cause.TheVariants.{BuffersMissing}
use Rattle.ffa_mend.specs.declared.Mend.{Mend}
use Rattle.ffa_mend.specs.declared.Mend.TheVariants as mends
use Rattle.ffa_mend.specs.declared.Side.{Side}
use Rattle.ffa_mend.specs.declared.Side.TheVariants.{Tx, Rx}
use Rattle.ffa_model.specs.DescriptorPlaces.{told_access_size}
use Rattle.ffa_playable.specs.declared.detail.Detail.{Detail}
use Rattle.ffa_playable.specs.declared.detail.Detail.TheVariants as details
use Rattle.ffa_playable.specs.declared.detail.Standing.{Standing}
use Rattle.ffa_playable.specs.declared.detail.Standing.TheVariants.{RunState}
use Rattle.play_trace.specs.TraceText.{hex, rights_text}
use Rattle.play_reasons.specs.Details.{awaited_text, detail_text, detailed_text, run_state_text, standing_text, status_text}
use Rattle.play_reasons.specs.Mends.{access_text, address_digits, address_text, allowed_text, asked_text, beyond_text, buffer_text, bytes_text, cause_text, ends_text, form_text, holder_text, kind_text, kinds_text, mend_text, message_text, misplaced_text, one_text, outside_text, pending_text, room_text, short_digits, short_text, span_text, steps_text, tag_text, version_text, wanted_text, word_text, work_text}
use Rattle.play_player.proofs.Singles.{IsSingle, single_append, single_hex}

pub single_address : (address : ℕ) → IsSingle (address_text address)
single_address address = single_hex (address_digits address) address

pub single_short : (n : ℕ) → IsSingle (short_text n)
single_short n = single_hex (short_digits n) n

-- VALUES THAT MAY BE

single_span : (digits : ℕ) (joint : List ℕ) (a b : ℕ) → IsSingle joint → IsSingle (span_text digits joint a b)
unfolding span_text
single_span digits joint a b h =
    single_append (codes ", and must be " ++ hex digits a) (joint ++ hex digits b) (single_hex digits a)
    (single_append joint (hex digits b) h (single_hex digits b))

single_one : (digits value : ℕ) → IsSingle (one_text digits value)
unfolding one_text
single_one digits value = single_hex digits value

single_misplaced : (address : ℕ) → IsSingle (misplaced_text address)
single_misplaced address =
    elim (cases_Bool (address % 4096 == 0)) [
      | inl page ↦ rw page refl
      | inr inside ↦ rw inside refl
    ]

single_steps : (digits : ℕ) (its : Allowed) → IsSingle (steps_text digits its)
unfolding steps_text
single_steps digits its =
    single_append (span_text digits (codes " to ") its.least its.most) (codes " in steps of " ++ hex digits its.step)
    (single_span digits (codes " to ") its.least its.most refl) (single_hex digits its.step)

single_allowed : (digits : ℕ) (its : Allowed) → IsSingle (allowed_text digits its)
single_allowed digits its =
    elim (cases_Bool (its.least == its.most)) [
      | inl one ↦ rw one (single_one digits its.least)
      | inr more ↦ rw more
          (elim (cases_Bool (its.step == 1)) [
            | inl all ↦ rw all (single_span digits (codes " to ") its.least its.most refl)
            | inr some ↦ rw some
                (elim (cases_Bool (its.most - its.least == its.step)) [
                  | inl two ↦ rw two (single_span digits (codes " or ") its.least its.most refl)
                  | inr many ↦ rw many (single_steps digits its)
                ])
          ])
    ]

pub single_wanted : (refusal : Refusal) (value : ℕ) → IsSingle (wanted_text refusal value)
single_wanted TxMisplaced value = single_misplaced value
single_wanted RxMisplaced value = single_misplaced value
single_wanted refusal value = refl

-- WHAT IS TO BE MENDED

single_letters : (right : Rights) → IsSingle (rights_text (Some right))
single_letters right = of right.level right.exec
  where
    of : (level : Data) (exec : Bool) → IsSingle (rights_text (Some (record { level = level; exec = exec })))
    of Ro true = refl
    of Ro false = refl
    of Rw true = refl
    of Rw false = refl

single_kind : (kind : Kind) → IsSingle (kind_text kind)
single_kind Share = refl
single_kind _ = refl

single_buffer : (endpoint : ℕ) (side : Side) → IsSingle (buffer_text endpoint side)
unfolding buffer_text
single_buffer endpoint Tx = single_hex 4 endpoint
single_buffer endpoint Rx = single_hex 4 endpoint

single_cause : (cause : Cause) → IsSingle (cause_text cause)
single_cause BuffersMissing = refl
single_cause _ = refl

single_has : (endpoint : ℕ) (right : List ℕ) → IsSingle right → IsSingle (access_text endpoint right)
unfolding access_text
single_has endpoint right h =
    single_append (codes ": " ++ hex 4 endpoint ++ codes " has ") right (single_append (codes ": " ++ hex 4 endpoint) (codes " has ") (single_hex 4 endpoint) refl) h

single_tag : (found wanted : ℕ) → IsSingle (tag_text found wanted)
unfolding tag_text
single_tag found wanted =
    let tag = codes ", whose tag is " ++ hex 16 wanted in
    let says = codes ", but the descriptor says " in
    single_append (tag ++ says) (hex 16 found) (single_append tag says (single_hex 16 wanted) refl) (single_hex 16 found)

single_kinds : (found wanted : List ℕ) → IsSingle found → IsSingle wanted → IsSingle (kinds_text found wanted)
unfolding kinds_text
single_kinds found wanted f w =
    single_append (codes ", whose kind is " ++ wanted) (codes ", but the descriptor says " ++ found) w f

single_asked : (asked most : List ℕ) → IsSingle asked → IsSingle most → IsSingle (asked_text asked most)
unfolding asked_text
single_asked asked most a m =
    let is_asked = codes " is requested, and " ++ most in
    single_append (codes ", where " ++ asked) (is_asked ++ codes " is the most allowed") a (single_append is_asked (codes " is the most allowed") m refl)

single_room : (bytes : ℕ) → IsSingle (room_text bytes)
unfolding room_text
single_room bytes = single_append (codes ", and the buffer has " ++ address_text bytes) (codes " bytes") (single_address bytes) refl

single_version : (version : Version) → IsSingle (version_text version)
single_version Compact = refl
single_version V1_1 = refl
single_version V1_2 = refl

single_form : (caller : ℕ) (version : Version) → IsSingle (form_text caller version)
unfolding form_text
single_form caller version =
    let size = told_access_size version in
    let since = codes ", because " ++ hex 4 caller in
    single_append (one_text 8 size ++ since) (version_text version) (single_append (one_text 8 size) since (single_one 8 size) (single_hex 4 caller)) (single_version version)

single_bytes : (place : ℕ) → IsSingle (bytes_text place)
unfolding bytes_text
single_bytes place =
    let first = codes "bytes " ++ short_text place in
    single_append (first ++ codes " to ") (short_text (place + 3)) (single_append first (codes " to ") (single_short place) refl) (single_short (place + 3))

single_word : (place value : ℕ) → IsSingle (word_text place value)
unfolding word_text
single_word place value = single_append (bytes_text place) (codes " are " ++ hex 8 value) (single_bytes place) (single_hex 8 value)

single_ends : (offset size : ℕ) → IsSingle (ends_text offset size)
unfolding ends_text
single_ends offset size =
    single_append (word_text 8 offset ++ codes ", and ") (word_text 16 size) (single_append (word_text 8 offset) (codes ", and ") (single_word 8 offset) refl) (single_word 16 size)

single_message : (offset size room : ℕ) → IsSingle (message_text offset size room)
unfolding message_text
single_message offset size room = single_append (codes ": " ++ ends_text offset size) (room_text room) (single_ends offset size) (single_room room)

single_beyond : (address : ℕ) → IsSingle (beyond_text address)
single_beyond address =
    elim (cases_Bool (nat_lt address (2 ^ 32))) [
      | inl low ↦ rw low refl
      | inr high ↦ rw high refl
    ]

single_outside : (address : ℕ) → IsSingle (outside_text address)
unfolding outside_text
single_outside address = single_append (codes ": " ++ address_text address) (beyond_text address) (single_address address) (single_beyond address)

single_holder : (endpoint : ℕ) → IsSingle (holder_text endpoint)
unfolding holder_text
single_holder endpoint = single_append (codes ", which " ++ hex 4 endpoint) (codes " holds") (single_hex 4 endpoint) refl

single_work : (work : Work) → IsSingle (work_text work)
single_work Run = refl
single_work (Request by) = single_hex 4 by.0

single_pending : (bit : ℕ) → IsSingle (pending_text bit)
unfolding pending_text
single_pending bit = single_short bit

single_mend : (mend : Mend) → IsSingle (mend_text mend)
single_mend (mends.Buffer endpoint side) = single_buffer endpoint.0 side
single_mend (mends.OwnRight right) = single_letters right
single_mend (mends.Granted right) = single_letters right
single_mend (mends.Access endpoint right) = single_has endpoint.0 (rights_text (Some right)) (single_letters right)
single_mend (mends.Caller endpoint) = single_hex 4 endpoint.0
single_mend (mends.Sender endpoint) = single_hex 4 endpoint.0
single_mend (mends.Tag found wanted) = single_tag found wanted
single_mend (mends.Kind found wanted) = single_kinds (kind_text found) (kind_text wanted) (single_kind found) (single_kind wanted)
single_mend (mends.Asked asked most) =
    single_asked (rights_text (Some asked)) (rights_text (Some most)) (single_letters asked) (single_letters most)
single_mend (mends.Held right) = single_letters right
single_mend (mends.Room bytes) = single_room bytes
single_mend (mends.Wanted value) = single_one 8 value
single_mend (mends.Form caller version) = single_form caller.0 version
single_mend (mends.Word place value) = single_word place value
single_mend (mends.Message offset size room) = single_message offset size room
single_mend (mends.Outside address) = single_outside address
single_mend (mends.Holder endpoint) = single_holder endpoint.0
single_mend (mends.Works work) = single_work work
single_mend (mends.Pending bit) = single_pending bit
single_mend (mends.Cause cause) = single_cause cause

-- HOW THINGS STAND

single_status : (status : Status) → IsSingle (status_text status)
single_status Running = refl
single_status _ = refl

single_awaited : (awaits : Option EndpointId) → IsSingle (awaited_text awaits)
single_awaited None = refl
single_awaited (Some e) = single_hex 4 e.0

single_run_state : (status : Status) (awaits : Option EndpointId) → IsSingle (run_state_text status awaits)
unfolding run_state_text
single_run_state status awaits = single_append (status_text status) (awaited_text awaits) (single_status status) (single_awaited awaits)

single_standing : (standing : Standing) → IsSingle (standing_text standing)
single_standing (RunState status awaits) = single_run_state status awaits

single_detail : (digits : ℕ) (detail : Detail) → IsSingle (detail_text digits detail)
single_detail digits (details.Mend mend) = single_mend mend
single_detail digits (details.Standing standing) = single_standing standing
single_detail digits (details.Allowed values) = single_allowed digits values

pub single_detailed : (digits : ℕ) (detail : Option Detail) → IsSingle (detailed_text digits detail)
single_detailed digits None = refl
single_detailed digits (Some detail) = single_detail digits detail
