-- SPDX-License-Identifier: MIT OR Apache-2.0
-- Pages without bytes: what doesn't ask for these bytes is as before, and an operation of who can't read them is alike.
use Rattle.std.proofs.Common.{◌≡◌, ◌∙◌, ℕ, zero, suc, ◌+◌, ◌-◌, ◌/◌, ◌%◌, ◌^◌, Bool, true, false, cond, List, [], length, get_or, set, take, drop, Option, Some, None, is_some, refl, sym, ap, subst, ◌==◌, ◌&&◌, nat_le, nat_lt}
use Rattle.std.specs.Option.{option_and_then, option_map, option_map_or}
use Rattle.std.proofs.Math.Path.{fun_ext}
use Rattle.std.proofs.lemmas.Bool.{eq-eqb, false≢true}
use Rattle.byteorder.specs.Endian.{little_bytes}
use Rattle.ffa_model.specs.declared.descriptor.RelinquishDesc.{RelinquishDesc}
use Rattle.ffa_model.specs.declared.descriptor.RetrieveDesc.{RetrieveDesc}
use Rattle.ffa_model.specs.declared.operation.ErrorCode.{ErrorCode}
use Rattle.ffa_model.specs.declared.operation.FaultKind.{FaultKind}
use Rattle.ffa_model.specs.declared.operation.Op.{Op}
use Rattle.ffa_model.specs.declared.operation.Op.TheVariants.{Call, Load, Store, Fetch}
use Rattle.ffa_model.specs.declared.operation.Outcome.{Outcome}
use Rattle.ffa_model.specs.declared.operation.Outcome.TheVariants.{Regs, Data, Done}
use Rattle.ffa_model.specs.declared.call.Reply.TheVariants.{Retrieved}
use Rattle.ffa_model.specs.declared.call.Call as calls
use Rattle.ffa_model.specs.declared.call.Call.TheVariants.{RxtxMap, PartitionInfoGet, MsgWait, MemDonate, MemLend, MemShare, MemRetrieve, MemRelinquish, MemReclaim, MsgSend2, Version}
use Rattle.ffa_model.specs.declared.rights.Kind.{Kind}
use Rattle.ffa_model.specs.declared.rights.Kind.TheVariants.{Share, Lend, Donate}
use Rattle.ffa_model.specs.declared.rights.Rights.{Rights}
use Rattle.ffa_model.specs.declared.transaction.Range.{Range}
use Rattle.ffa_model.specs.Bits.{is_set}
use Rattle.ffa_model.specs.Lists.{map_at}
use Rattle.ffa_model.specs.Rights.{is_donate, may_fetch, may_store}
use Rattle.ffa_model.specs.Ram.{number_in}
use Rattle.ffa_model.specs.SendDescriptor.{SendRecord, send_of}
use Rattle.ffa_model.specs.RetrieveDescriptor.{endpoints_named, retrieve_of}
use Rattle.ffa_model.specs.RelinquishDescriptor.{relinquish_of}
use Rattle.ffa_model.specs.ResponseBytes.{response_bytes}
use Rattle.ffa_model.specs.HypervisorRetrieve.{asks_back, back_guards, back_length, handle_alone, handle_read, hypervisor_retrieve, is_asked_back, memory_retrieve, read_back, retrieve_by, sent_record, told_back}
use Rattle.ffa_model.specs.State.{State, Page, Transaction, Buffers, buffers_of, page_at, transaction_of, version_of, own_right_of, owner_of, with_version}
use Rattle.ffa_model.specs.Access.{access, held_by, names, right_by, right_of, transaction_at, ownership_of}
use Rattle.ffa_model.specs.Buffers.{filled, filled_pages, is_full, map_guards}
use Rattle.ffa_model.specs.Calls.{Service, Stepped, answered, encode, first_failure, served}
use Rattle.ffa_model.specs.Memory.{access_at, accessed, changed_pages, fault_of, fetch_fault, number_at, page_bytes, page_of_address, page_with, read_fault, run_bytes, size_of, store_fault, stored, written_pages, written_run, zeroed_if, zeroed_page}
use Rattle.ffa_model.specs.MemoryRetrieve.{donated_page, receiver_retrieve, response_length, response_to, retrieve_guards, retrieve_read, retrieved, retrieved_from, retrieved_right, right_for}
use Rattle.ffa_model.specs.MemoryReturn.{memory_reclaim, memory_relinquish, named_ranges, reclaim_guards, relinquish_guards, relinquished, relinquished_from}
use Rattle.ffa_model.specs.MemorySend.{is_told_normal, memory_send, memory_sent, offered_in, send_guards, send_read}
use Rattle.ffa_model.specs.DescriptorPlaces.{in_version}
use Rattle.ffa_model.specs.Messages.{delivered, header_in, message_in, msg_send2, send2_guards, tx_bytes}
use Rattle.ffa_model.specs.Registers.{decode}
use Rattle.ffa_model.specs.RunStates.{keeps_rx, waited}
use Rattle.ffa_model.specs.Setup.{info_bytes, is_count_alone, uuid_bytes}
use Rattle.ffa_model.specs.Step.{serve, service, step}
use Rattle.ffa_model.specs.declared.call.Transfer.{Transfer}
use Rattle.ffa_model.specs.Transactions.{open_of, scene_of, with_open}
use Rattle.ffa_model.proofs.Accesses.{length-map_at}
use Rattle.ffa_model.proofs.Runs.{flat-run-same}
use Rattle.ffa_laws.specs.Steady.{IsAlone, IsSteady}
use Rattle.ffa_laws.specs.Readable.{blank, blank_where, blanked}
use Rattle.ffa_laws.proofs.Maps.{at-map_at, map_at-same, map_at-set, map_at-twice}
use Rattle.ffa_model.specs.declared.manifest.Ffa.{Ffa}
use Rattle.ffa_model.specs.declared.manifest.Ffa.TheVariants as served
use Rattle.ffa_model.specs.Setup.{form_of, is_served_version, version_answer, version_kept}
use Rattle.ffa_laws.proofs.MemoryLaws.{fault-none}

-- ---- one page
pub blank-none : (b : Bool) → blank_where b None ≡ None
blank-none true = refl
blank-none false = refl

pub blank-twice : (b : Bool) (page : Option Page) → blank_where b (blank_where b page) ≡ blank_where b page
blank-twice true None = refl
blank-twice true (Some q) = refl
blank-twice false page = refl

-- a change of a page to which its bytes don't matter, but for the bytes that it leaves
abbrev pub IsBlind : (Option Page → Option Page) → Type 0
IsBlind f = (b : Bool) (page : Option Page) → blank_where b (f (blank_where b page)) ≡ blank_where b (f page)

pub blind-written : (at : ℕ) (bytes : List ℕ) → IsBlind (page_with at bytes)
blind-written at bytes true None = refl
blind-written at bytes true (Some q) = refl
blind-written at bytes false page = refl

pub blind-zeroed : IsBlind zeroed_page
blind-zeroed true None = refl
blind-zeroed true (Some q) = refl
blind-zeroed false page = refl

pub blind-donated : (e : ℕ) (right : Rights) → IsBlind (donated_page e right)
blind-donated e right true None = refl
blind-donated e right true (Some q) = refl
blind-donated e right false page = refl

pub blind-same : IsBlind (λ page. page)
blind-same b page = blank-twice b page

pub blind-where : (n : Bool) (f : Option Page → Option Page) → IsBlind f → IsBlind (λ page. cond n (f page) page)
blind-where true f blind = blind
blind-where false f blind = blind-same

right-blank : (e : ℕ) (b : Bool) (page : Option Page) (t : Option Transaction) → right_of e (blank_where b page) t ≡ right_of e page t
right-blank e false page t = refl
right-blank e true None t = refl
right-blank e true (Some q) None = refl
right-blank e true (Some q) (Some t) = of (held_by t e)
  where
    of : (o : Option Rights) → right_by e (record q { bytes = [] }) t o ≡ right_by e q t o
    of None = refl
    of (Some right) = refl

-- ---- lists of pages
module _ (hides : ℕ → Bool) where
  pub blanked-twice : (ps : List (Option Page)) → blanked hides (blanked hides ps) ≡ blanked hides ps
  blanked-twice ps = map_at-twice (λ p page. blank_where (hides p) page) (λ p page. blank_where (hides p) page) ps ∙ map_at-same _ _ ps (λ p page. blank-twice (hides p) page)

  pub at-blanked : (ps : List (Option Page)) (p : ℕ) → get_or (blanked hides ps) p None ≡ blank_where (hides p) (get_or ps p None)
  at-blanked ps p = at-map_at (λ q page. blank_where (hides q) page) ps p (λ q. blank-none (hides q))

  -- each page changed by its number
  pub each-blind : (f : ℕ → Option Page → Option Page) → ((p : ℕ) → IsBlind (f p)) → (ps : List (Option Page)) → blanked hides (map_at f (blanked hides ps)) ≡ blanked hides (map_at f ps)
  each-blind f blind ps =
      map_at-twice (λ p page. blank_where (hides p) page) f (blanked hides ps)
      ∙ map_at-twice (λ p page. blank_where (hides p) (f p page)) (λ p page. blank_where (hides p) page) ps
      ∙ map_at-same _ _ ps (λ p page. blind p (hides p) page)
      ∙ sym (map_at-twice (λ p page. blank_where (hides p) page) f ps)

  -- one page changed
  pub one-blind : (p : ℕ) (f : Option Page → Option Page) → IsBlind f → (ps : List (Option Page))
      → blanked hides (set (blanked hides ps) p (f (get_or (blanked hides ps) p None))) ≡ blanked hides (set ps p (f (get_or ps p None)))
  one-blind p f blind ps =
      map_at-set (λ q page. blank_where (hides q) page) (blanked hides ps) p (f (get_or (blanked hides ps) p None))
      ∙ (λ i. set (blanked-twice ps i) p (blank_where (hides p) (f (at-blanked ps p i))))
      ∙ ap (set (blanked hides ps) p) (blind (hides p) (get_or ps p None))
      ∙ sym (map_at-set (λ q page. blank_where (hides q) page) ps p (f (get_or ps p None)))

  pub written-blind : (p at : ℕ) (bytes : List ℕ) (ps : List (Option Page)) → blanked hides (written_pages (blanked hides ps) p at bytes) ≡ blanked hides (written_pages ps p at bytes)
  written-blind p at bytes ps = one-blind p (page_with at bytes) (blind-written at bytes) ps

  -- pages in a row
  run-blind : (n first : ℕ) (bytes : List ℕ) (ps : List (Option Page)) → blanked hides (written_run n (blanked hides ps) first bytes) ≡ blanked hides (written_run n ps first bytes)
  run-blind zero first bytes ps = blanked-twice ps
  run-blind (suc n) first bytes ps =
      sym (run-blind n (first + 1) (drop 4096 bytes) (written_pages (blanked hides ps) first 0 (take 4096 bytes)))
      ∙ ap (λ qs. blanked hides (written_run n qs (first + 1) (drop 4096 bytes))) (written-blind first 0 (take 4096 bytes) ps)
      ∙ run-blind n (first + 1) (drop 4096 bytes) (written_pages ps first 0 (take 4096 bytes))

  pub filled-blind : (bytes : List ℕ) (o : Option Buffers) (ps : List (Option Page)) → blanked hides (filled_pages (blanked hides ps) bytes o) ≡ blanked hides (filled_pages ps bytes o)
  filled-blind bytes None ps = blanked-twice ps
  filled-blind bytes (Some b) ps = run-blind b.pages b.rx bytes ps

  -- what is blind to these bytes, of lists that are the same without them
  pub both-blind : (f : List (Option Page) → List (Option Page)) → ((ps : List (Option Page)) → blanked hides (f (blanked hides ps)) ≡ blanked hides (f ps))
      → (ps qs : List (Option Page)) → blanked hides ps ≡ blanked hides qs → blanked hides (f ps) ≡ blanked hides (f qs)
  both-blind f blind ps qs same = sym (blind ps) ∙ ap (λ rs. blanked hides (f rs)) same ∙ blind qs

  pub changed-blind : (s : State) (ranges : List Range) (f : Option Page → Option Page) → IsBlind f → blanked hides (changed_pages (blank hides s) ranges f) ≡ blanked hides (changed_pages s ranges f)
  changed-blind s ranges f blind = each-blind (λ p page. cond (names s ranges p) (f page) page) (λ p. blind-where (names s ranges p) f blind) s.pages

-- ---- what is read of TX: the same of both, by what a call makes of it
abbrev pub AreReadAlike : calls.Call → List ℕ → List ℕ → Type 0
AreReadAlike (MemDonate x) tx other = take x.total tx ≡ take x.total other
AreReadAlike (MemLend x) tx other = take x.total tx ≡ take x.total other
AreReadAlike (MemShare x) tx other = take x.total tx ≡ take x.total other
AreReadAlike (MemRetrieve x) tx other = take x.total tx ≡ take x.total other
AreReadAlike MemRelinquish tx other = relinquish_of tx ≡ relinquish_of other
AreReadAlike MsgSend2 tx other = tx ≡ other
AreReadAlike call tx other = Unit {0}

pub read-same : (call : calls.Call) (tx other : List ℕ) → tx ≡ other → AreReadAlike call tx other
read-same (MemDonate x) tx other same = ap (take x.total) same
read-same (MemLend x) tx other same = ap (take x.total) same
read-same (MemShare x) tx other same = ap (take x.total) same
read-same (MemRetrieve x) tx other same = ap (take x.total) same
read-same MemRelinquish tx other same = ap relinquish_of same
read-same MsgSend2 tx other same = same
read-same call tx other same = tt

-- an operation reads none, unless it is a call
abbrev pub IsReadAlike : Op → List ℕ → List ℕ → Type 0
IsReadAlike (Call x) tx other = AreReadAlike (decode x) tx other
IsReadAlike op tx other = Unit {0}

op-read-same : (op : Op) (tx other : List ℕ) → tx ≡ other → IsReadAlike op tx other
op-read-same (Call x) tx other same = read-same (decode x) tx other same
op-read-same _ tx other same = tt

-- ---- a state, and one with other bytes in pages that are hidden
module _ (s : State) (hides : ℕ → Bool) where
  -- two services that differ in such bytes at most
  pub record Alike (c d : Service) : Type 0 where
    pub guards : first_failure c.guards ≡ first_failure d.guards
    pub reply : c.reply ≡ d.reply
    pub state : blank hides c.state ≡ blank hides d.state

  -- one outcome, and states that differ in such bytes at most
  pub record Steps (c d : Stepped) : Type 0 where
    pub outcome : c.outcome ≡ d.outcome
    pub state : blank hides c.state ≡ blank hides d.state

  owner-blank : (c : Bool) (page : Option Page) → option_map_or (λ (q : Page). q.owner) (blank_where c page) 0x8000 ≡ option_map_or (λ (q : Page). q.owner) page 0x8000
  owner-blank false page = refl
  owner-blank true None = refl
  owner-blank true (Some q) = refl

  own_right-blank : (c : Bool) (page : Option Page) → option_map (λ (q : Page). q.own_right) (blank_where c page) ≡ option_map (λ (q : Page). q.own_right) page
  own_right-blank false page = refl
  own_right-blank true None = refl
  own_right-blank true (Some q) = refl

  module _ (ps : List (Option Page)) (same : blanked hides ps ≡ blanked hides s.pages) where
    abbrev o : State
    o = record s { pages = ps }

    page-o : (p : ℕ) → blank_where (hides p) (page_at o p) ≡ blank_where (hides p) (page_at s p)
    page-o p = sym (at-blanked hides ps p) ∙ ap (λ qs. get_or qs p None) same ∙ at-blanked hides s.pages p

    access-o : (e p : ℕ) → access o e p ≡ access s e p
    access-o e p =
        sym (right-blank e (hides p) (page_at o p) (transaction_at s p)) ∙ ap (λ page. right_of e page (transaction_at s p)) (page-o p)
        ∙ right-blank e (hides p) (page_at s p) (transaction_at s p)

    size-o : length ps ≡ length s.pages
    size-o =
        sym (length-map_at (λ p page. blank_where (hides p) page) ps) ∙ ap (λ (qs : List (Option Page)). length qs) same
        ∙ length-map_at (λ p page. blank_where (hides p) page) s.pages

    ownership-o : ownership_of o ≡ ownership_of s
    ownership-o =
        λ i. record (ownership_of s) {
          count = size-o i;
          owner = fun_ext {f = owner_of o} {g = owner_of s}
              (λ p. sym (owner-blank (hides p) (page_at o p)) ∙ ap (λ page. option_map_or (λ (q : Page). q.owner) page 0x8000) (page-o p) ∙ owner-blank (hides p) (page_at s p)) i;
          own_right = fun_ext {f = own_right_of o} {g = own_right_of s}
              (λ p. sym (own_right-blank (hides p) (page_at o p)) ∙ ap (option_map (λ (q : Page). q.own_right)) (page-o p) ∙ own_right-blank (hides p) (page_at s p)) i;
        }

    scene-o : scene_of o ≡ scene_of s
    scene-o = λ i. record { endpoints = length s.parties; ram = ownership-o i; normal = s.normal; buffers = s.buffers; open_transactions = open_of s }

    twice-o : blank hides o ≡ blank hides s
    twice-o = λ i. record s { pages = same i }

    access_at-o : (address : ℕ) → access_at o s.runner address ≡ access_at s s.runner address
    access_at-o address = elim (page_of_address s address) as (λ at. option_and_then (access o s.runner) at ≡ option_and_then (access s s.runner) at) [ None ↦ refl | Some p ↦ access-o s.runner p ]

    -- pages that change alike
    written-o : (p at : ℕ) (bytes : List ℕ) → blanked hides (written_pages ps p at bytes) ≡ blanked hides (written_pages s.pages p at bytes)
    written-o p at bytes = both-blind hides (λ qs. written_pages qs p at bytes) (written-blind hides p at bytes) ps s.pages same

    filled-o : (bytes : List ℕ) (at : Option Buffers) → blanked hides (filled_pages ps bytes at) ≡ blanked hides (filled_pages s.pages bytes at)
    filled-o bytes at = both-blind hides (λ qs. filled_pages qs bytes at) (filled-blind hides bytes at) ps s.pages same

    changed-o : (ranges : List Range) (f : Option Page → Option Page) → IsBlind f → blanked hides (changed_pages o ranges f) ≡ blanked hides (changed_pages s ranges f)
    changed-o ranges f blind =
        both-blind hides (λ qs. map_at (λ p page. cond (names s ranges p) (f page) page) qs)
        (each-blind hides (λ p page. cond (names s ranges p) (f page) page) (λ p. blind-where (names s ranges p) f blind)) ps s.pages same

    zeroed-o : (asked : Bool) (ranges : List Range) → blanked hides (zeroed_if asked o ranges).pages ≡ blanked hides (zeroed_if asked s ranges).pages
    zeroed-o true ranges = changed-o ranges zeroed_page blind-zeroed
    zeroed-o false ranges = same

    sent-o : (kind : Kind) (at : Option SendRecord) → blank hides (memory_sent o kind at) ≡ blank hides (memory_sent s kind at)
    sent-o kind None = twice-o
    sent-o kind (Some r) =
        ap (λ ram. blank hides (zeroed_if r.zero (with_open o (offered_in (open_of s) s.runner kind (is_told_normal ram s.normal r.ranges) r)) r.ranges)) ownership-o
        ∙ (λ i. record (memory_sent s kind (Some r)) { pages = zeroed-o r.zero r.ranges i })

    -- ---- what the runner does, where what it reads of TX is the same
    send-o : (kind : Kind) (x : Transfer) → take x.total (tx_bytes o s.runner) ≡ take x.total (tx_bytes s s.runner) → Alike (memory_send o kind x) (memory_send s kind x)
    send-o kind x part =
        record {
          guards = λ i. first_failure (send_guards s.ffa (scene-o i) s.runner x (send_of s.ffa kind (in_version (version_of s s.runner) (part i))));
          reply = refl;
          state = ap (λ said. blank hides (memory_sent o kind (send_of s.ffa kind (in_version (version_of s s.runner) said)))) part ∙ sent-o kind (send_read s kind x.total);
        }

    retrieved-o : (at : Option RetrieveDesc) → blank hides (retrieved o at) ≡ blank hides (retrieved s at)
    retrieved-o None = twice-o
    retrieved-o (Some d) = from (transaction_of s d.handle)
      where
        given : (kind : Kind) (ranges : List Range) (e : ℕ) (right : Rights) (bytes : List ℕ)
            → blanked hides (filled_pages (cond (is_donate kind) (changed_pages o ranges (donated_page e right)) ps) bytes (buffers_of s e))
            ≡ blanked hides (filled_pages (cond (is_donate kind) (changed_pages s ranges (donated_page e right)) s.pages) bytes (buffers_of s e))
        given kind ranges e right bytes =
            both-blind hides (λ qs. filled_pages qs bytes (buffers_of s e)) (filled-blind hides bytes (buffers_of s e))
            (cond (is_donate kind) (changed_pages o ranges (donated_page e right)) ps) (cond (is_donate kind) (changed_pages s ranges (donated_page e right)) s.pages) (by (is_donate kind))
          where
            by : (donated : Bool) → blanked hides (cond donated (changed_pages o ranges (donated_page e right)) ps) ≡ blanked hides (cond donated (changed_pages s ranges (donated_page e right)) s.pages)
            by true = changed-o ranges (donated_page e right) (blind-donated e right)
            by false = same

        from : (at : Option Transaction) → blank hides (retrieved_from o d at) ≡ blank hides (retrieved_from s d at)
        from None = twice-o
        from (Some t) =
            ap (λ ram. blank hides (retrieved_right o d.handle t s.runner (right_for ram t s.runner d))) ownership-o
            ∙ (let right = right_for (ownership_of s) t s.runner d in
            λ i. record (retrieved_right s d.handle t s.runner right) { pages = given t.kind t.ranges s.runner right (response_bytes (version_of s s.runner) (response_to d.handle t s.runner right)) i })

    received-o : (x : Transfer) → take x.total (tx_bytes o s.runner) ≡ take x.total (tx_bytes s s.runner) → Alike (receiver_retrieve o x) (receiver_retrieve s x)
    received-o x part =
        record {
          guards = λ i. first_failure (retrieve_guards s.ffa (scene-o i) s.runner x (endpoints_named (in_version (version_of s s.runner) (part i))) (retrieve_of s.ffa s.runner (in_version (version_of s s.runner) (part i))));
          reply = λ i. Retrieved (response_length s (retrieve_of s.ffa s.runner (in_version (version_of s s.runner) (part i))));
          state = ap (λ said. blank hides (retrieved o (retrieve_of s.ffa s.runner (in_version (version_of s s.runner) said)))) part ∙ retrieved-o (retrieve_read s x.total);
        }

    read-o : (at : Option ℕ) → blank hides (read_back o at) ≡ blank hides (read_back s at)
    read-o None = twice-o
    read-o (Some h) = from (transaction_of s h)
      where
        from : (at : Option Transaction) → blank hides (told_back o h at) ≡ blank hides (told_back s h at)
        from None = twice-o
        from (Some t) = λ i. record (told_back s h (Some t)) { pages = filled-o (response_bytes (version_of s s.runner) (sent_record h t)) (buffers_of s s.runner) i }

    back-o : (x : Transfer) → take x.total (tx_bytes o s.runner) ≡ take x.total (tx_bytes s s.runner) → Alike (hypervisor_retrieve o x) (hypervisor_retrieve s x)
    back-o x part =
        record {
          guards = λ i. first_failure (back_guards (is_full (buffers_of s s.runner)) s.runner (transaction_of s) (handle_alone (in_version (version_of s s.runner) (part i))));
          reply = λ i. Retrieved (back_length s (handle_alone (in_version (version_of s s.runner) (part i))));
          state = ap (λ said. blank hides (read_back o (handle_alone (in_version (version_of s s.runner) said)))) part ∙ read-o (handle_read s x.total);
        }

    retrieve-o : (x : Transfer) → take x.total (tx_bytes o s.runner) ≡ take x.total (tx_bytes s s.runner) → Alike (memory_retrieve o x) (memory_retrieve s x)
    retrieve-o x part =
        subst (λ b. Alike (retrieve_by b o x) (memory_retrieve s x)) (λ i. is_asked_back s.ffa s.buffers s.runner x (in_version (version_of s s.runner) (sym part i))) (by (asks_back s x))
      where
        by : (b : Bool) → Alike (retrieve_by b o x) (retrieve_by b s x)
        by true = back-o x part
        by false = received-o x part

    relinquished-o : (at : Option RelinquishDesc) → blank hides (relinquished o at) ≡ blank hides (relinquished s at)
    relinquished-o None = twice-o
    relinquished-o (Some d) = from (transaction_of s d.handle)
      where
        from : (at : Option Transaction) → blank hides (relinquished_from o d at) ≡ blank hides (relinquished_from s d at)
        from None = twice-o
        from (Some t) = λ i. record (relinquished_from s d (Some t)) { pages = zeroed-o d.zero t.ranges i }

    relinquish-o : relinquish_of (tx_bytes o s.runner) ≡ relinquish_of (tx_bytes s s.runner) → Alike (memory_relinquish o) (memory_relinquish s)
    relinquish-o part =
        record {
          guards = λ i. first_failure (relinquish_guards (buffers_of s s.runner) (open_of s) s.runner (part i));
          reply = refl;
          state = ap (λ said. blank hides (relinquished o said)) part ∙ relinquished-o (relinquish_of (tx_bytes s s.runner));
        }

    reclaim-o : (handle flags : ℕ) → Alike (memory_reclaim o handle flags) (memory_reclaim s handle flags)
    reclaim-o handle flags =
        record {
          guards = λ i. first_failure (reclaim_guards (ownership-o i) s.runner flags (transaction_of s handle));
          reply = refl;
          state = λ i. record (memory_reclaim s handle flags).state { pages = zeroed-o (is_set 0 flags) (named_ranges (transaction_of s handle)) i };
        }

    send2-o : tx_bytes o s.runner ≡ tx_bytes s s.runner → Alike (msg_send2 o) (msg_send2 s)
    send2-o tx-o =
        record {
          guards = λ i. first_failure (send2_guards s.parties s.buffers (version_of s s.runner) s.runner (header_in (tx-o i)));
          reply = refl;
          state =
              ap (λ tx. blank hides (delivered o (header_in tx).receiver (message_in tx))) tx-o
              ∙ (λ i. record (msg_send2 s).state { pages = filled-o (message_in (tx_bytes s s.runner)) (buffers_of s (header_in (tx_bytes s s.runner)).receiver) i });
        }

    answer-o : (ffa : Ffa) (word : ℕ) → version_answer ffa o word ≡ version_answer ffa s word
    answer-o served.V1_1 word = refl
    answer-o served.V1_2 word = refl

    version-o : (ffa : Ffa) (word : ℕ) → blank hides (version_kept ffa o word) ≡ blank hides (version_kept ffa s word)
    version-o served.V1_1 word = λ i. record s { pages = same i }
    version-o served.V1_2 word = elim (is_served_version s word) as (λ b. blank hides (cond b (with_version o s.runner (form_of word)) o) ≡ blank hides (cond b (with_version s s.runner (form_of word)) s)) [
      | true ↦ λ i. record (with_version s s.runner (form_of word)) { pages = same i }
      | false ↦ λ i. record s { pages = same i }
    ]

    service-o : (call : calls.Call) → AreReadAlike call (tx_bytes o s.runner) (tx_bytes s s.runner) → Alike (service o call) (service s call)
    service-o (Version word) part = record { guards = refl; reply = answer-o s.ffa word; state = version-o s.ffa word }
    service-o (RxtxMap tx rx pages) part =
        record {
          guards = λ i. first_failure (map_guards s.runner (buffers_of s s.runner) (ownership-o i) tx rx pages);
          reply = refl;
          state = λ i. record (service s (RxtxMap tx rx pages)).state { pages = same i };
        }
    service-o (PartitionInfoGet uuid flags) part =
        record {
          guards = refl;
          reply = refl;
          state = elim (is_count_alone flags) as (λ c. blank hides (cond c o (filled o s.runner (info_bytes s.ffa (version_of s s.runner) s.parties (uuid_bytes uuid)))) ≡ blank hides (cond c s (filled s s.runner (info_bytes s.ffa (version_of s s.runner) s.parties (uuid_bytes uuid))))) [
            | true ↦ twice-o
            | false ↦ λ i. record (filled s s.runner (info_bytes s.ffa (version_of s s.runner) s.parties (uuid_bytes uuid))) { pages = filled-o (info_bytes s.ffa (version_of s s.runner) s.parties (uuid_bytes uuid)) (buffers_of s s.runner) i }
          ];
        }
    service-o (MsgWait flags) part =
        record {
          guards = refl;
          reply = refl;
          state = elim (keeps_rx (version_of s s.runner) flags) as (λ c. blank hides (waited o c) ≡ blank hides (waited s c)) [
            | true ↦ λ i. record (waited s true) { pages = same i }
            | false ↦ λ i. record (waited s false) { pages = same i }
          ];
        }
    service-o (MemDonate x) part = send-o Donate x part
    service-o (MemLend x) part = send-o Lend x part
    service-o (MemShare x) part = send-o Share x part
    service-o (MemRetrieve x) part = retrieve-o x part
    service-o MemRelinquish part = relinquish-o part
    service-o (MemReclaim handle flags) part = reclaim-o handle.0 flags
    service-o MsgSend2 part = send2-o part
    service-o call part = record { guards = refl; reply = refl; state = λ i. record (service s call).state { pages = same i } }

    served-o : (c d : Service) → Alike c d → Steps (served o c) (served s d)
    served-o c d alike = subst (λ g. Steps (answered g o c.state c.reply) (served s d)) (sym alike.guards) (of (first_failure d.guards))
      where
        of : (g : Option ErrorCode) → Steps (answered g o c.state c.reply) (answered g s d.state d.reply)
        of None = record { outcome = λ i. Regs (record { 0 = (alike.state i).runner }) (encode (alike.reply i)); state = alike.state }
        of (Some code) = record { outcome = refl; state = twice-o }

    call-o : (call : calls.Call) → AreReadAlike call (tx_bytes o s.runner) (tx_bytes s s.runner) → Steps (serve o call) (serve s call)
    call-o call part = served-o (service o call) (service s call) (service-o call part)

    accessed-state : (f g : Option FaultKind) (new next : State) (told said : Outcome) → f ≡ g → blank hides new ≡ blank hides next
        → blank hides (accessed f o new told).state ≡ blank hides (accessed g s next said).state
    accessed-state f g new next told said is states = ap (λ h. blank hides (accessed h o new told).state) is ∙ of g
      where
        of : (h : Option FaultKind) → blank hides (accessed h o new told).state ≡ blank hides (accessed h s next said).state
        of None = states
        of (Some fault) = twice-o

    -- the state after it, also where it reads bytes that are hidden
    state-o : (op : Op) → IsReadAlike op (tx_bytes o s.runner) (tx_bytes s s.runner) → blank hides (step o op).state ≡ blank hides (step s op).state
    state-o (Call x) part = (call-o (decode x) part).state
    state-o (Load address size) part =
        accessed-state (read_fault o address (size_of size)) (read_fault s address (size_of size)) o s (Data (number_at o address (size_of size))) (Data (number_at s address (size_of size)))
        (ap (λ right. fault_of (address % size_of size == 0) right (λ r. true)) (access_at-o address)) twice-o
    state-o (Store address size value) part =
        accessed-state (store_fault o address (size_of size)) (store_fault s address (size_of size)) (stored o address (little_bytes (size_of size) value)) (stored s address (little_bytes (size_of size) value)) Done Done
        (ap (λ right. fault_of (address % size_of size == 0) right may_store) (access_at-o address))
        (λ i. record s { pages = written-o ((address - s.ram_base) / 4096) (address % 4096) (little_bytes (size_of size) value) i })
    state-o (Fetch address) part =
        accessed-state (fetch_fault o address) (fetch_fault s address) o s (Data (number_at o address 4)) (Data (number_at s address 4))
        (ap (λ right. fault_of (address % 4 == 0) right may_fetch) (access_at-o address)) twice-o

    -- ---- and its outcome, where what it may read at its address is the same
    abbrev pub IsSameAt : ℕ → ℕ → Type 0
    IsSameAt address n = is_some (access_at s s.runner address) ≡ true → number_at o address n ≡ number_at s address n

    abbrev pub IsSameTo : Op → Type 0
    IsSameTo (Load address size) = IsSameAt address (size_of size)
    IsSameTo (Fetch address) = IsSameAt address 4
    IsSameTo _ = Unit {0}

    accessed-o : (f g : Option FaultKind) (new next : State) (told said : Outcome) → f ≡ g → (g ≡ None → told ≡ said) → blank hides new ≡ blank hides next
        → Steps (accessed f o new told) (accessed g s next said)
    accessed-o f g new next told said is outcome states = subst (λ h. Steps (accessed h o new told) (accessed g s next said)) (sym is) (of g outcome)
      where
        of : (h : Option FaultKind) → (h ≡ None → told ≡ said) → Steps (accessed h o new told) (accessed h s next said)
        of None outcome = record { outcome = outcome refl; state = states }
        of (Some fault) outcome = record { outcome = refl; state = twice-o }

    pub outcome-o : (op : Op) → IsReadAlike op (tx_bytes o s.runner) (tx_bytes s s.runner) → IsSameTo op → Steps (step o op) (step s op)
    outcome-o (Call x) part same = call-o (decode x) part
    outcome-o (Load address size) part same =
        accessed-o (read_fault o address (size_of size)) (read_fault s address (size_of size)) o s (Data (number_at o address (size_of size))) (Data (number_at s address (size_of size)))
        (ap (λ right. fault_of (address % size_of size == 0) right (λ r. true)) (access_at-o address))
        (λ none. ap Data (same (fault-none (address % size_of size == 0) (access_at s s.runner address) (λ r. true) none)))
        twice-o
    outcome-o (Store address size value) part same =
        accessed-o (store_fault o address (size_of size)) (store_fault s address (size_of size)) (stored o address (little_bytes (size_of size) value)) (stored s address (little_bytes (size_of size) value)) Done Done
        (ap (λ right. fault_of (address % size_of size == 0) right may_store) (access_at-o address))
        (λ none. refl)
        (λ i. record s { pages = written-o ((address - s.ram_base) / 4096) (address % 4096) (little_bytes (size_of size) value) i })
    outcome-o (Fetch address) part same =
        accessed-o (fetch_fault o address) (fetch_fault s address) o s (Data (number_at o address 4)) (Data (number_at s address 4))
        (ap (λ right. fault_of (address % 4 == 0) right may_fetch) (access_at-o address))
        (λ none. ap Data (same (fault-none (address % 4 == 0) (access_at s s.runner address) may_fetch none)))
        twice-o

-- ---- a state, some pages of which are blank
module _ (s : State) (hides : ℕ → Bool) where
  abbrev b : State
  b = blank hides s

  pub page-b : (p : ℕ) → page_at b p ≡ blank_where (hides p) (page_at s p)
  page-b p = at-blanked hides s.pages p

  pub access-b : (e p : ℕ) → access b e p ≡ access s e p
  access-b = access-o s hides b.pages (blanked-twice hides s.pages)

  pub ownership-b : ownership_of b ≡ ownership_of s
  ownership-b = ownership-o s hides b.pages (blanked-twice hides s.pages)

  pub access_at-b : (address : ℕ) → access_at b s.runner address ≡ access_at s s.runner address
  access_at-b = access_at-o s hides b.pages (blanked-twice hides s.pages)

  pub sent-b : (kind : Kind) (at : Option SendRecord) → blank hides (memory_sent b kind at) ≡ blank hides (memory_sent s kind at)
  sent-b = sent-o s hides b.pages (blanked-twice hides s.pages)

  -- a page that isn't blank has its bytes
  pub bytes-b : (p : ℕ) → hides p ≡ false → page_bytes b p ≡ page_bytes s p
  bytes-b p off = ap (λ page. option_map_or (λ (q : Page). q.bytes) page []) (page-b p ∙ ap (λ c. blank_where c (page_at s p)) off)

  -- ---- the runner can read its TX
  module _ (steady : IsSteady s) (shows : (p : ℕ) → is_some (access s s.runner p) ≡ true → hides p ≡ false) where
    -- a page that the runner has alone
    bytes-alone : (p : ℕ) → IsAlone s s.runner p → page_bytes b p ≡ page_bytes s p
    bytes-alone p alone = of (page_at s p) refl
      where
        of : (page : Option Page) → page_at s p ≡ page → page_bytes b p ≡ page_bytes s p
        of None at = ap (λ page. option_map_or (λ (q : Page). q.bytes) page []) (page-b p ∙ ap (blank_where (hides p)) at ∙ blank-none (hides p) ∙ sym at)
        of (Some q) at =
            let mine : (q.owner == s.runner) ≡ true = eq-eqb q.owner s.runner (sym (ap (λ o. option_map_or (λ (x : Page). x.owner) o 0x8000) at) ∙ alone.owner) in
            bytes-b p (shows p
            (ap is_some ((λ i. right_of s.runner (at i) (option_and_then (transaction_of s) (alone.unnamed i))) ∙ ap (λ c. cond c (Some q.own_right) None) mine)))

    pub tx-shown : tx_bytes b s.runner ≡ tx_bytes s s.runner
    tx-shown = of (buffers_of s s.runner) refl
      where
        of : (o : Option Buffers) → buffers_of s s.runner ≡ o
            → option_map_or (λ (x : Buffers). run_bytes b x.tx x.pages) o [] ≡ option_map_or (λ (x : Buffers). run_bytes s x.tx x.pages) o []
        of None is = refl
        of (Some x) is = flat-run-same (page_bytes b) (page_bytes s) x.tx x.pages (λ p its. bytes-alone p ((steady.buffers s.runner x steady.runner is).tx p its))

  -- ---- whose TX has all its bytes
  module _ (tx-b : tx_bytes b s.runner ≡ tx_bytes s s.runner) where
    pub service-b : (call : calls.Call) → Alike s hides (service b call) (service s call)
    service-b call = service-o s hides b.pages (blanked-twice hides s.pages) call (read-same call _ _ tx-b)

    pub call-b : (call : calls.Call) → Steps s hides (serve b call) (serve s call)
    call-b call = call-o s hides b.pages (blanked-twice hides s.pages) call (read-same call _ _ tx-b)

    pub state-b : (op : Op) → blank hides (step b op).state ≡ blank hides (step s op).state
    state-b op = state-o s hides b.pages (blanked-twice hides s.pages) op (op-read-same op _ _ tx-b)

    -- ---- all pages that it has access to have their bytes
    module _ (shows : (p : ℕ) → is_some (access s s.runner p) ≡ true → hides p ≡ false) where
      shown-at : (address n : ℕ) → IsSameAt s hides b.pages (blanked-twice hides s.pages) address n
      shown-at address n some = ap (λ bytes. number_in bytes (address % 4096) n) (bytes-b ((address - s.ram_base) / 4096) (shows ((address - s.ram_base) / 4096) (reached some)))
        where
          reached : is_some (access_at s s.runner address) ≡ true → is_some (access s s.runner ((address - s.ram_base) / 4096)) ≡ true
          reached =
              elim (nat_le s.ram_base address && nat_lt address (2 ^ 32)) as (λ c. is_some (option_and_then (access s s.runner) (cond c (Some ((address - s.ram_base) / 4096)) None)) ≡ true → is_some (access s s.runner ((address - s.ram_base) / 4096)) ≡ true) [
                | true ↦ λ is. is
                | false ↦ λ is. absurd (false≢true is)
              ]

      shown-to : (op : Op) → IsSameTo s hides b.pages (blanked-twice hides s.pages) op
      shown-to (Load address size) = shown-at address (size_of size)
      shown-to (Fetch address) = shown-at address 4
      shown-to _ = tt

      pub outcome-b : (op : Op) → Steps s hides (step b op) (step s op)
      outcome-b op = outcome-o s hides b.pages (blanked-twice hides s.pages) op (op-read-same op _ _ tx-b) (shown-to op)

  -- ---- an operation of a runner that can read all other pages to which it has access
  pub step-b : IsSteady s → ((p : ℕ) → is_some (access s s.runner p) ≡ true → hides p ≡ false) → (op : Op) → Steps s hides (step b op) (step s op)
  step-b steady shows = outcome-b (tx-shown steady shows) shows
