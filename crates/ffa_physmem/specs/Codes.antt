-- SPDX-License-Identifier: MIT OR Apache-2.0
-- FOR PROOFS ALONE
-- RAM and its past as numbers.
use Rattle.std.specs.Prelude.{ℕ, Bool, List, Option, refl}
use Rattle.std.specs.Coded.{Coded, code_by, coded×, coded_bool, coded_ℕ, coded_list, coded_option}
use denote.RawPtr.{Ptr, coded_ptr}
use Rattle.ffa_model.specs.Ram.{Ram}
use Rattle.ffa_physmem.specs.Moments.{Past, Reading, Settled, Step}

abbrev pub coded_ram : Coded Ram
coded_ram =
    code_by (ℕ × List (List ℕ)) (coded× coded_ℕ (coded_list (coded_list coded_ℕ)))
    (λ r. (r.base, r.pages)) (λ p. record { base = p.0; pages = p.1 }) (λ _. refl)

abbrev pub coded_settled : Coded Settled
coded_settled =
    code_by (ℕ × (ℕ × ℕ)) (coded× coded_ℕ (coded× coded_ℕ coded_ℕ))
    (λ f. (f.endpoint, (f.first, f.count))) (λ p. record { endpoint = p.0; first = p.1.0; count = p.1.1 }) (λ _. refl)

abbrev pub coded_reading : Coded Reading
coded_reading =
    code_by (ℕ × (ℕ × Bool)) (coded× coded_ℕ (coded× coded_ℕ coded_bool))
    (λ r. (r.first, (r.count, r.begins))) (λ p. record { first = p.0; count = p.1.0; begins = p.1.1 }) (λ _. refl)

abbrev pub coded_step : Coded Step
coded_step =
    code_by (Ram × (Ram × ((Option Settled × Option Reading) × (ℕ × ℕ))))
    (coded× coded_ram (coded× coded_ram (coded× (coded× (coded_option coded_settled) (coded_option coded_reading)) (coded× coded_ℕ coded_ℕ))))
    (λ s. (s.before, (s.after, ((s.settled, s.reading), (s.words, s.loans)))))
    (λ p. record { before = p.0; after = p.1.0; settled = p.1.1.0.0; reading = p.1.1.0.1; words = p.1.1.1.0; loans = p.1.1.1.1 }) (λ _. refl)

abbrev pub coded_past : Coded Past
coded_past =
    code_by (Option (List Step) × (List Ptr × (ℕ × List (List ℕ))))
    (coded× (coded_option (coded_list coded_step)) (coded× (coded_list coded_ptr) (coded× coded_ℕ (coded_list (coded_list coded_ℕ)))))
    (λ p. (p.steps, (p.site.places, (p.site.copies.first, p.site.copies.beneath))))
    (λ p. record { steps = p.0; site = record { places = p.1.0; copies = record { first = p.1.1.0; beneath = p.1.1.1 } } }) (λ _. refl)
