-- SPDX-License-Identifier: MIT OR Apache-2.0
-- FOR PROOFS ALONE
-- Nothing here is to be believed: a type that clauses see has to have a code, and each code brings the proof that it can be
-- undone.
use Rattle.std.specs.Prelude.{◌≡◌, ℕ, ◌==◌, Bool, true, false, List, Option, None, Some, refl, if◌then◌else◌}
use Rattle.std.specs.Ordering.{nat_cmp}
use Rattle.std.specs.Cmp.Lexicographic.{slice_cmp}
use Rattle.std.specs.FinMap as map
use Rattle.std.specs.FinSet as finite_set
use Rattle.std.specs.Coded.{Coded, code_by, coded×, coded_ℕ, coded_bool, coded_list, coded_option}
use Rattle.ffa_model.specs.declared.endpoint.Region.{Region}
use Rattle.ffa_model.specs.declared.endpoint.Version.{Version}
use Rattle.ffa_model.specs.declared.manifest.Ffa.{Ffa}
use Rattle.ffa_model.specs.declared.manifest.Ffa.TheVariants as served
use Rattle.ffa_model.specs.declared.endpoint.Version.TheVariants.{Compact, V1_1, V1_2}
use Rattle.ffa_model.specs.declared.rights.Data.{Data}
use Rattle.ffa_model.specs.declared.rights.Data.TheVariants.{Ro, Rw}
use Rattle.ffa_model.specs.declared.rights.Rights.{Rights}
use Rattle.ffa_model.specs.declared.rights.Kind.{Kind}
use Rattle.ffa_model.specs.declared.rights.Kind.TheVariants.{Share, Lend, Donate}
use Rattle.ffa_model.specs.declared.transaction.Range.{Range}
use Rattle.ffa_model.specs.declared.transaction.Receiver.{Receiver}
use Rattle.ffa_model.specs.declared.schedule.Status.{Status}
use Rattle.ffa_model.specs.declared.schedule.Status.TheVariants.{Running, Waiting, Yielded, Blocked, Preempted, RunsElsewhere}
use Rattle.ffa_model.specs.declared.schedule.Work.{Work}
use Rattle.ffa_model.specs.declared.schedule.Work.TheVariants.{Run, Request}
use Rattle.ffa_model.specs.Rights.{may_write}
use Rattle.ffa_model.specs.State.{State, Party, Page, Transaction, Buffers}
use Rattle.ffa_model.specs.RunStates.{Schedule}
use Rattle.ffa_model.specs.Notifications.{Notifications}

abbrev pub data_from : Bool → Data
data_from true = Rw
data_from false = Ro

abbrev pub data_from-may_write : (d : Data) → data_from (may_write d) ≡ d
data_from-may_write Ro = refl
data_from-may_write Rw = refl

abbrev pub coded_data : Coded Data
coded_data = code_by Bool coded_bool may_write data_from data_from-may_write

abbrev pub coded_rights : Coded Rights
coded_rights = code_by (Data × Bool) (coded× coded_data coded_bool) (λ r. (r.level, r.exec)) (λ p. record { level = p.0; exec = p.1 }) (λ _. refl)

abbrev pub kind_number : Kind → ℕ
kind_number Share = 0
kind_number Lend = 1
kind_number Donate = 2

abbrev pub kind_from : ℕ → Kind
kind_from n = if n == 0 then Share else if n == 1 then Lend else Donate

abbrev pub kind_from-number : (k : Kind) → kind_from (kind_number k) ≡ k
kind_from-number Share = refl
kind_from-number Lend = refl
kind_from-number Donate = refl

abbrev pub coded_kind : Coded Kind
coded_kind = code_by ℕ coded_ℕ kind_number kind_from kind_from-number

abbrev pub status_number : Status → ℕ
status_number Running = 0
status_number Waiting = 1
status_number Yielded = 2
status_number Blocked = 3
status_number Preempted = 4
status_number RunsElsewhere = 5

abbrev pub status_from : ℕ → Status
status_from n = if n == 0 then Running else if n == 1 then Waiting else if n == 2 then Yielded else if n == 3 then Blocked else if n == 4 then Preempted else RunsElsewhere

abbrev pub status_from-number : (s : Status) → status_from (status_number s) ≡ s
status_from-number Running = refl
status_from-number Waiting = refl
status_from-number Yielded = refl
status_from-number Blocked = refl
status_from-number Preempted = refl
status_from-number RunsElsewhere = refl

abbrev pub coded_status : Coded Status
coded_status = code_by ℕ coded_ℕ status_number status_from status_from-number

abbrev pub by_of : Work → Option ℕ
by_of Run = None
by_of (Request by) = Some by.0

abbrev pub work_from : Option ℕ → Work
work_from None = Run
work_from (Some e) = Request (record { 0 = e })

abbrev pub work_from-by_of : (w : Work) → work_from (by_of w) ≡ w
work_from-by_of Run = refl
work_from-by_of (Request by) = refl

abbrev pub coded_work : Coded Work
coded_work = code_by (Option ℕ) (coded_option coded_ℕ) by_of work_from work_from-by_of

-- by whether it has access descriptors of 32 bytes, except the compact form
abbrev pub form_code : Version → Option Bool
form_code Compact = None
form_code V1_1 = Some false
form_code V1_2 = Some true

abbrev pub version_from : Option Bool → Version
version_from None = Compact
version_from (Some false) = V1_1
version_from (Some true) = V1_2

abbrev pub version_from-form_code : (v : Version) → version_from (form_code v) ≡ v
version_from-form_code Compact = refl
version_from-form_code V1_1 = refl
version_from-form_code V1_2 = refl

abbrev pub coded_version : Coded Version
coded_version = code_by (Option Bool) (coded_option coded_bool) form_code version_from version_from-form_code

abbrev pub serves_1_1 : Ffa → Bool
serves_1_1 served.V1_1 = true
serves_1_1 served.V1_2 = false

abbrev pub ffa_from : Bool → Ffa
ffa_from true = served.V1_1
ffa_from false = served.V1_2

abbrev pub ffa_from-serves : (f : Ffa) → ffa_from (serves_1_1 f) ≡ f
ffa_from-serves served.V1_1 = refl
ffa_from-serves served.V1_2 = refl

abbrev pub coded_ffa : Coded Ffa
coded_ffa = code_by Bool coded_bool serves_1_1 ffa_from ffa_from-serves

abbrev pub coded_party : Coded Party
coded_party =
    code_by (List ℕ × ℕ) (coded× (coded_list coded_ℕ) coded_ℕ) (λ p. (p.uuid, p.properties)) (λ p. record { uuid = p.0; properties = p.1 }) (λ _. refl)

abbrev pub coded_page : Coded Page
coded_page =
    code_by (ℕ × (Rights × List ℕ)) (coded× coded_ℕ (coded× coded_rights (coded_list coded_ℕ)))
    (λ t. (t.owner, (t.own_right, t.bytes))) (λ p. record { owner = p.0; own_right = p.1.0; bytes = p.1.1 }) (λ _. refl)

abbrev pub coded_range : Coded Range
coded_range = code_by (ℕ × ℕ) (coded× coded_ℕ coded_ℕ) (λ r. (r.address, r.pages)) (λ p. record { address = p.0; pages = p.1 }) (λ _. refl)

abbrev pub coded_region : Coded Region
coded_region =
    code_by (ℕ × (ℕ × Rights)) (coded× coded_ℕ (coded× coded_ℕ coded_rights)) (λ r. (r.base, (r.pages, r.rights)))
    (λ p. record { base = p.0; pages = p.1.0; rights = p.1.1 }) (λ _. refl)

abbrev pub coded_receiver : Coded Receiver
coded_receiver =
    code_by (ℕ × Option Data) (coded× coded_ℕ (coded_option coded_data)) (λ r. (r.endpoint.0, r.grant))
    (λ p. record { endpoint = record { 0 = p.0 }; grant = p.1 }) (λ _. refl)

abbrev pub coded_transaction : Coded Transaction
coded_transaction =
    code_by (Kind × (ℕ × (ℕ × (Bool × (Bool × (List Range × (List Receiver × map.FinMap nat_cmp Rights)))))))
    (coded× coded_kind (coded× coded_ℕ (coded× coded_ℕ (coded× coded_bool (coded× coded_bool (coded× (coded_list coded_range) (coded× (coded_list coded_receiver) (map.code coded_ℕ coded_rights))))))))
    (λ t. (t.kind, (t.sender, (t.tag, (t.zero, (t.normal, (t.ranges, (t.receivers, t.held))))))))
    (λ p. record { kind = p.0; sender = p.1.0; tag = p.1.1.0; zero = p.1.1.1.0; normal = p.1.1.1.1.0; ranges = p.1.1.1.1.1.0; receivers = p.1.1.1.1.1.1.0; held = p.1.1.1.1.1.1.1 })
    (λ _. refl)

abbrev pub coded_buffers : Coded Buffers
coded_buffers =
    code_by (ℕ × (ℕ × (ℕ × Bool))) (coded× coded_ℕ (coded× coded_ℕ (coded× coded_ℕ coded_bool))) (λ b. (b.tx, (b.rx, (b.pages, b.full))))
    (λ p. record { tx = p.0; rx = p.1.0; pages = p.1.1.0; full = p.1.1.1 }) (λ _. refl)

abbrev pub coded_bits : Coded (finite_set.FinSet (slice_cmp nat_cmp))
coded_bits = finite_set.code (coded_list coded_ℕ)

abbrev pub coded_state : Coded State
coded_state =
    code_by (ℕ × (ℕ × (List Party × (Option (List Region) × (List (Option Page) × (map.FinMap nat_cmp Transaction × (List ℕ × (List (Option Buffers) × (ℕ × (List Status × (List (Option Work) × (List Bool × (finite_set.FinSet (slice_cmp nat_cmp) × (finite_set.FinSet (slice_cmp nat_cmp) × (finite_set.FinSet (slice_cmp nat_cmp) × (Ffa × List Version))))))))))))))))
    (coded× coded_ℕ (coded× coded_ℕ (coded× (coded_list coded_party) (coded× (coded_option (coded_list coded_region)) (coded× (coded_list (coded_option coded_page)) (coded× (map.code coded_ℕ coded_transaction) (coded× (coded_list coded_ℕ) (coded× (coded_list (coded_option coded_buffers)) (coded× coded_ℕ (coded× (coded_list coded_status) (coded× (coded_list (coded_option coded_work)) (coded× (coded_list coded_bool) (coded× coded_bits (coded× coded_bits (coded× coded_bits (coded× coded_ffa (coded_list coded_version)))))))))))))))))
    (λ s. (s.ram_base, (s.tables, (s.parties, (s.normal, (s.pages, (s.transactions, (s.sent, (s.buffers, (s.runner, (s.statuses, (s.works, (s.bitmaps, (s.bound, (s.pending, (s.notices, (s.ffa, s.versions)))))))))))))))))
    (λ p. record {
      ram_base = p.0;
      tables = p.1.0;
      parties = p.1.1.0;
      normal = p.1.1.1.0;
      pages = p.1.1.1.1.0;
      transactions = p.1.1.1.1.1.0;
      sent = p.1.1.1.1.1.1.0;
      buffers = p.1.1.1.1.1.1.1.0;
      runner = p.1.1.1.1.1.1.1.1.0;
      statuses = p.1.1.1.1.1.1.1.1.1.0;
      works = p.1.1.1.1.1.1.1.1.1.1.0;
      bitmaps = p.1.1.1.1.1.1.1.1.1.1.1.0;
      bound = p.1.1.1.1.1.1.1.1.1.1.1.1.0;
      pending = p.1.1.1.1.1.1.1.1.1.1.1.1.1.0;
      notices = p.1.1.1.1.1.1.1.1.1.1.1.1.1.1.0;
      ffa = p.1.1.1.1.1.1.1.1.1.1.1.1.1.1.1.0;
      versions = p.1.1.1.1.1.1.1.1.1.1.1.1.1.1.1.1;
    })
    (λ _. refl)

abbrev pub coded_schedule : Coded Schedule
coded_schedule =
    code_by (ℕ × (List Status × List (Option Work))) (coded× coded_ℕ (coded× (coded_list coded_status) (coded_list (coded_option coded_work))))
    (λ c. (c.runner, (c.statuses, c.works))) (λ p. record { runner = p.0; statuses = p.1.0; works = p.1.1 }) (λ _. refl)

abbrev pub coded_notifications : Coded Notifications
coded_notifications =
    code_by (List Bool × (finite_set.FinSet (slice_cmp nat_cmp) × (finite_set.FinSet (slice_cmp nat_cmp) × finite_set.FinSet (slice_cmp nat_cmp)))) (coded× (coded_list coded_bool) (coded× coded_bits (coded× coded_bits coded_bits)))
    (λ n. (n.bitmaps, (n.bound, (n.pending, n.notices)))) (λ p. record { bitmaps = p.0; bound = p.1.0; pending = p.1.1.0; notices = p.1.1.1 }) (λ _. refl)
