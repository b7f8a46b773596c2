-- SPDX-License-Identifier: MIT OR Apache-2.0
-- What the words of a descriptor say, and what is wrong first with them.
use Rattle.std.specs.Prelude.{◌≡◌, ℕ, ◌%◌, ⊤, Bool, true, false, is_some, nat_le, length, List, codes, Option, Some, None, Result, Ok, Err, option_map, if◌then◌else◌, ok_or, bytes_eq}
use Rattle.play_arguments.specs.Commands.{Described}
use Rattle.play_trace.specs.TraceLines.{number_in}
use Rattle.ffa_model.specs.declared.endpoint.EndpointId.{EndpointId}
use Rattle.ffa_model.specs.declared.endpoint.Address.{Address}
use Rattle.ffa_model.specs.declared.endpoint.Version.{Version}
use Rattle.ffa_model.specs.declared.endpoint.Version.TheVariants.{V1_1}
use Rattle.ffa_model.specs.declared.limits.TheConstants.{MOST_RANGES, MOST_RECEIVERS}
use Rattle.ffa_model.specs.declared.rights.Kind.{Kind}
use Rattle.ffa_model.specs.declared.transaction.Range.{Range}
use Rattle.ffa_model.specs.declared.transaction.Receiver.{Receiver}
use Rattle.play_trace.specs.declared.descriptor.DescriptorContents.TheVariants.{Send, Retrieve, Relinquish}
use Rattle.play_trace.specs.declared.reclaim.Reclaim.{Reclaim}
use Rattle.play_report.specs.Forms.{form_of}
use Rattle.play_report.specs.Members.{asker_of, each, first_misplaced, identifier_of, kind_of, members_of, range_of, receiver_of, tx_of, version_of}
use Rattle.play_report.specs.declared.fault.Form.{Form}
use Rattle.play_report.specs.declared.fault.Form.TheVariants as form
use Rattle.play_report.specs.declared.fault.Word.{Word}
use Rattle.play_report.specs.declared.fault.Word.TheVariants as words
use Rattle.play_report.specs.declared.fault.WordsFault.{WordsFault}
use Rattle.play_report.specs.declared.fault.WordsFault.TheVariants.{UnknownKind, OutOfPlace, Missing, TooMany, RightOutOfPlace, Unreadable}
use Rattle.play_report.specs.declared.members.Asker.{Asker}
use Rattle.play_report.specs.declared.right.Right.{Right}
use Rattle.play_report.specs.declared.told.Asked.{Asked}
use Rattle.play_report.specs.declared.told.Asked.TheVariants as variant
use Rattle.play_report.specs.declared.told.Told.{Told}

-- what follows, where nothing is wrong so far
infixl 10 ◌>>=◌
abbrev pub ◌>>=◌ : {A B : Type 0} → Result A WordsFault → (A → Result B WordsFault) → Result B WordsFault
(Ok x) >>= f = f x
(Err e) >>= f = Err e

-- an answer is what the definition says, as this function sees it
abbrev pub Exact : {X Y : Type 0} → (X → Y) → Result X WordsFault → Result Y WordsFault → Type 0
Exact seen (Ok x) read = read ≡ Ok (seen x)
Exact seen (Err e) read = read ≡ Err e

-- WORDS

-- a word that has no place
abbrev pub refuse : Form → Word → Bool → Result (Unit {0}) WordsFault
refuse form word true = Err (OutOfPlace word form)
refuse form word false = Ok tt

-- a word that has to be given
abbrev pub require : Word → Option (List ℕ) → Result (List ℕ) WordsFault
require word given = ok_or given (Missing word)

-- a word that has to be read where it is given, and what stands for it where it isn't
abbrev pub read_or : {A : Type 0} → A → (List ℕ → Option A) → Word → Option (List ℕ) → Result A WordsFault
read_or usual read word None = Ok usual
read_or usual read word (Some text) = ok_or (read text) (Unreadable word)

-- a list of at most so many members
abbrev pub at_most : ℕ → Word → List ℕ → Result (Unit {0}) WordsFault
at_most most word text = if nat_le (length (members_of text)) most then Ok tt else Err (TooMany word)

-- a right that has no place, where there is one
abbrev pub refused : Form → Option Right → Result (Unit {0}) WordsFault
refused form None = Ok tt
refused form (Some right) = Err (RightOutOfPlace right form)

-- a list of endpoints of which none has a right that has no place there
abbrev pub only_rights : Form → List ℕ → Result (Unit {0}) WordsFault
only_rights form text = refused form (first_misplaced form (members_of text))

unfoldable pub tx_in : List ℕ → Result Address WordsFault
tx_in text = ok_or (tx_of text) (Unreadable words.Tx)

unfoldable pub sender_in : List ℕ → Result EndpointId WordsFault
sender_in text = ok_or (identifier_of text) (Unreadable words.From)

unfoldable pub handle_in : List ℕ → Result ℕ WordsFault
handle_in text = ok_or (number_in 16 text) (Unreadable words.Handle)

unfoldable pub tag_in : Described → Result ℕ WordsFault
tag_in d = read_or 0 (number_in 16) words.Tag d.tag

-- the kind of the transaction that is retrieved, if it is told
unfoldable pub of_in : Described → Result (Option Kind) WordsFault
of_in d = read_or None (λ text. option_map (λ kind. Some kind) (kind_of text)) words.Of d.of

-- the version in whose form the descriptor is written
unfoldable pub version_in : Described → Result Version WordsFault
version_in d = read_or V1_1 version_of words.Form d.form

unfoldable pub receivers_in : Form → List ℕ → Result (List Receiver) WordsFault
receivers_in form text = do
  few ← at_most MOST_RECEIVERS words.To text
  rights ← only_rights form text
  ok_or (each receiver_of (members_of text)) (Unreadable words.To)

unfoldable pub ranges_in : List ℕ → Result (List Range) WordsFault
ranges_in text = do
  few ← at_most MOST_RANGES words.Pages text
  ok_or (each range_of (members_of text)) (Unreadable words.Pages)

-- the one receiver of a retrieve, and of a relinquish
unfoldable pub asker_in : List ℕ → Result Asker WordsFault
asker_in text = do
  one ← at_most 1 words.To text
  ok_or (asker_of text) (Unreadable words.To)

unfoldable pub endpoint_in : List ℕ → Result EndpointId WordsFault
endpoint_in text = do
  one ← at_most 1 words.To text
  none ← only_rights form.Relinquish text
  ok_or (identifier_of text) (Unreadable words.To)

-- DESCRIPTORS

-- a donate, a lend or a share
unfoldable pub send_told : Kind → Described → Result Told WordsFault
send_told kind d = do
  no_handle ← refuse (form_of kind) words.Handle (is_some d.handle)
  no_of ← refuse (form_of kind) words.Of (is_some d.of)
  tx_word ← require words.Tx d.tx
  from ← require words.From d.from
  to ← require words.To d.to
  pages ← require words.Pages d.pages
  tx ← tx_in tx_word
  sender ← sender_in from
  receivers ← receivers_in (form_of kind) to
  ranges ← ranges_in pages
  tag ← tag_in d
  version ← version_in d
  Ok (record {
    version = version;
    descriptor = Send kind (record {
      sender = sender;
      zero = d.zero;
      tag = tag;
      receivers = record { items = receivers };
      ranges = record { items = ranges };
    });
    tx = tx;
  })

unfoldable pub retrieve_told : Described → Result Told WordsFault
retrieve_told d = do
  no_pages ← refuse form.Retrieve words.Pages (is_some d.pages)
  no_zero ← refuse form.Retrieve words.Zero d.zero
  tx_word ← require words.Tx d.tx
  from ← require words.From d.from
  to ← require words.To d.to
  handle_word ← require words.Handle d.handle
  tx ← tx_in tx_word
  sender ← sender_in from
  asker ← asker_in to
  handle ← handle_in handle_word
  tag ← tag_in d
  kind ← of_in d
  version ← version_in d
  Ok (record {
    version = version;
    descriptor = Retrieve (record {
      sender = sender;
      handle = handle;
      tag = tag;
      kind = kind;
      level = asker.level;
      exec = asker.exec;
    }) asker.endpoint;
    tx = tx;
  })

unfoldable pub relinquish_told : Described → Result Told WordsFault
relinquish_told d = do
  no_from ← refuse form.Relinquish words.From (is_some d.from)
  no_pages ← refuse form.Relinquish words.Pages (is_some d.pages)
  no_tag ← refuse form.Relinquish words.Tag (is_some d.tag)
  no_of ← refuse form.Relinquish words.Of (is_some d.of)
  tx_word ← require words.Tx d.tx
  to ← require words.To d.to
  handle_word ← require words.Handle d.handle
  tx ← tx_in tx_word
  endpoint ← endpoint_in to
  handle ← handle_in handle_word
  version ← version_in d
  Ok (record {
    version = version;
    descriptor = Relinquish (record { handle = handle; zero = d.zero; endpoint = endpoint });
    tx = tx;
  })

unfoldable pub told : Described → Result Told WordsFault
told d =
    if bytes_eq d.kind (codes "retrieve") then retrieve_told d
    else if bytes_eq d.kind (codes "relinquish") then relinquish_told d
    else (ok_or (kind_of d.kind) UnknownKind >>= λ kind. send_told kind d)

-- RECLAIMS

unfoldable pub reclaim_told : Described → Result Reclaim WordsFault
reclaim_told d = do
  no_tx ← refuse form.Reclaim words.Tx (is_some d.tx)
  no_from ← refuse form.Reclaim words.From (is_some d.from)
  no_to ← refuse form.Reclaim words.To (is_some d.to)
  no_pages ← refuse form.Reclaim words.Pages (is_some d.pages)
  no_tag ← refuse form.Reclaim words.Tag (is_some d.tag)
  no_of ← refuse form.Reclaim words.Of (is_some d.of)
  no_form ← refuse form.Reclaim words.Form (is_some d.form)
  handle_word ← require words.Handle d.handle
  handle ← handle_in handle_word
  Ok (record { handle = handle; zero = d.zero })

-- a reclaim, or else a descriptor
unfoldable pub asked : Described → Result Asked WordsFault
asked d =
    if bytes_eq d.kind (codes "reclaim") then (reclaim_told d >>= λ r. Ok (variant.Reclaim r))
    else (told d >>= λ t. Ok (variant.Descriptor t))

-- TX begins a page, where there is one
abbrev pub HasAlignedTx : Asked → Type 0
HasAlignedTx (variant.Descriptor t) = t.tx.0 % 4096 ≡ 0
HasAlignedTx (variant.Reclaim r) = ⊤
