-- SPDX-License-Identifier: MIT OR Apache-2.0
-- What is told of a check that fails: the code sees of the machine's parts what the definition sees of its state.
use Rattle.std.proofs.Common.{◌≡◌, ◌∙◌, ℕ, Bool, true, false, cond, Option, None, length, take, ap, sym}
use Rattle.std.specs.Option.{option_map}
use Rattle.std.specs.FinMap as finite
use Rattle.ffa_memshare.specs.declared.descriptor_call.DescriptorCall.{DescriptorCall}
use Rattle.ffa_memshare.specs.Found.{sent_told}
use Rattle.ffa_memshare.specs.Scenes.{descriptor_in, scene_in}
use Rattle.ffa_memshare.specs.Stored.{map_in, open_in}
use Rattle.ffa_mend.specs.declared.explained.Explained.{Explained}
use Rattle.ffa_mend.specs.Explained.{explained}
use Rattle.ffa_mend.specs.Mend.{mend_asked, mend_asked_back, mend_bits, mend_given_back, mend_map, mend_message, mend_noticed, mend_pending, mend_return}
use Rattle.ffa_messages.specs.Parts.{sent_in}
use Rattle.ffa_model.specs.declared.call.Call.{Call}
use Rattle.ffa_model.specs.declared.call.Call.TheVariants.{MemRelinquish, MemRetrieve}
use Rattle.ffa_model.specs.declared.refusal.Refusal.{Refusal}
use Rattle.ffa_model.specs.declared.rights.Kind.{Kind}
use Rattle.ffa_model.specs.Access.{ownership_of}
use Rattle.ffa_model.specs.About.{failing_map, failing_reclaim}
use Rattle.ffa_model.specs.AboutContents.{about_asked_back, about_bits, about_message, about_relinquish, about_retrieve, where_mapped, where_whole}
use Rattle.ffa_model.specs.Buffers.{buffers_in, is_full}
use Rattle.ffa_model.specs.Calls.{first_refusal}
use Rattle.ffa_model.specs.DescriptorPlaces.{in_version}
use Rattle.ffa_model.specs.First.{first}
use Rattle.ffa_model.specs.HypervisorRetrieve.{asks_back, back_guards, handle_alone, memory_retrieve, retrieve_by}
use Rattle.ffa_model.specs.MemoryRetrieve.{retrieve_guards}
use Rattle.ffa_model.specs.MemoryReturn.{memory_relinquish, relinquish_guards}
use Rattle.ffa_model.specs.MemorySend as sends
use Rattle.ffa_model.specs.Messages.{header_in, tx_bytes}
use Rattle.ffa_model.specs.Notifications.{notifications_of}
use Rattle.ffa_model.specs.RelinquishDescriptor.{relinquish_of}
use Rattle.ffa_model.specs.RetrieveDescriptor.{endpoints_named, retrieve_of}
use Rattle.ffa_model.specs.SendDescriptor.{send_of}
use Rattle.ffa_model.specs.State.{State, buffers_of, transaction_of, version_of}
use Rattle.ffa_model.specs.Transactions.{open_of, scene_of}
use Rattle.ffa_rxtx.specs.Parts.{tx_in, ownership_in}
use Rattle.ffa_spmc.specs.Meaning.{IsManager, Parts, state_of}
use Rattle.ffa_spmc.proofs.Notified.{each-bitmap}
use Rattle.ffa_spmc.proofs.MemoryParts.{memory_parts_in}
use Rattle.ffa_spmc.proofs.Pools.{ownership-is}
use Rattle.ffa_spmc.proofs.Retrieves.{scene-is}
use Rattle.ffa_spmc.proofs.Sends.{sent-is}
use Rattle.ffa_reasons.specs.Explanation.{with_told}

-- what is so of the parts is so of what contracts see
pub seen-in : {X : Type 0} (x : Parts) (now : State) → state_of x ≡ now → (c : State → X) (o : X) → o ≡ c (state_of x) → o ≡ c now
seen-in x now view c o is = is ∙ ap c view

module _ (x : Parts) (machine : IsManager x) where
  pub map-mended : (refusal : Refusal) (tx rx pages : ℕ) → mend_map (ownership_in x.kept.pages x.manifest.ram_base.0) tx rx pages refusal ≡ mend_map (ownership_of (state_of x)) tx rx pages refusal
  map-mended refusal tx rx pages = λ i. mend_map (ownership-is x machine i) tx rx pages refusal

  -- the code's runner is that of the run states
  module _ (e : ℕ) (at : e ≡ x.kept.chain.runner) where
    abbrev s : State
    s = state_of x

    pub pending-mended : mend_pending x.kept.bitmaps e ≡ mend_pending (notifications_of s) s.runner
    unfolding first
    pending-mended = λ i. mend_pending x.kept.bitmaps (at i)

    pub relinquish-told : option_map (λ (refusal : Refusal). (
      refusal,
      explained (where_mapped (buffers_in x.kept.buffers e) (about_relinquish (tx_in x.ram (buffers_in x.kept.buffers e)) refusal)) None
          (mend_given_back (finite.get (map_in x.kept.pool.slots)) e (buffers_in x.kept.buffers e) (tx_in x.ram (buffers_in x.kept.buffers e)) refusal),
    ))
        (first_refusal (relinquish_guards (buffers_in x.kept.buffers e) (open_in x.kept.pool) e (relinquish_of (tx_in x.ram (buffers_in x.kept.buffers e)))))
        ≡ with_told s MemRelinquish (first_refusal (memory_relinquish s).guards)
    unfolding first
    relinquish-told =
        λ i. option_map (λ (refusal : Refusal). (
          refusal,
          explained (where_mapped (buffers_in x.kept.buffers (at i)) (about_relinquish (sent-is x machine e at i) refusal)) None
              (mend_given_back (transaction_of s) (at i) (buffers_in x.kept.buffers (at i)) (sent-is x machine e at i) refusal),
        ))
        (first_refusal (relinquish_guards (buffers_in x.kept.buffers (at i)) (open_of s) (at i) (relinquish_of (sent-is x machine e at i))))

    -- a call whose descriptor stands in TX
    module _ (call : DescriptorCall) (spoken : call.version ≡ version_of (state_of x) (state_of x).runner) where
      whole : descriptor_in x.ram x.kept.buffers e call ≡ sends.descriptor_in s call.transfer.total
      unfolding first
      whole = λ i. in_version (spoken i) (take call.transfer.total (sent-is x machine e at i))

      -- what is told of a retrieve, by who asks
      abbrev told-by : Bool → Option (Refusal × Explained)
      told-by b = option_map (λ (refusal : Refusal). (
        refusal,
        record {
          about = cond b (about_asked_back (sends.descriptor_in s call.transfer.total) refusal)
              (where_whole s.buffers s.runner call.transfer (about_retrieve s.ffa s.runner (sends.descriptor_in s call.transfer.total) refusal));
          page = None;
          mend = cond b (mend_asked_back (transaction_of s) (sends.descriptor_in s call.transfer.total) refusal)
              (mend_asked s.ffa s.buffers (ownership_of s) (transaction_of s) s.runner call.transfer (sends.descriptor_in s call.transfer.total) refusal);
          receivers = None;
        },
      )) (first_refusal (retrieve_by b s call.transfer).guards)

      -- of who asks for what it sent
      pub asked-back-told : call.ffa ≡ s.ffa → asks_back s call.transfer ≡ true
          → option_map (λ (refusal : Refusal). (
            refusal,
            explained (about_asked_back (descriptor_in x.ram x.kept.buffers e call) refusal) None
                (mend_asked_back (finite.get (map_in x.kept.pool.slots)) (descriptor_in x.ram x.kept.buffers e call) refusal),
          ))
          (first_refusal (back_guards (is_full (buffers_in x.kept.buffers e)) e (finite.get (map_in x.kept.pool.slots)) (handle_alone (descriptor_in x.ram x.kept.buffers e call))))
          ≡ with_told s (MemRetrieve call.transfer) (first_refusal (memory_retrieve s call.transfer).guards)
      unfolding first
      asked-back-told alike back =
          (λ i. option_map (λ (refusal : Refusal). (
            refusal,
            explained (about_asked_back (whole i) refusal) None (mend_asked_back (transaction_of s) (whole i) refusal),
          ))
          (first_refusal (back_guards (is_full (buffers_in x.kept.buffers (at i))) (at i) (transaction_of s) (handle_alone (whole i)))))
          ∙ (λ i. told-by (sym back i))

      -- of a receiver
      pub retrieve-told : call.ffa ≡ s.ffa → asks_back s call.transfer ≡ false
          → option_map (λ (refusal : Refusal). (
            refusal,
            explained (where_whole x.kept.buffers e call.transfer (about_retrieve call.ffa e (descriptor_in x.ram x.kept.buffers e call) refusal)) None
                (mend_asked call.ffa x.kept.buffers (ownership_in x.kept.pages x.kept.layout.base.0) (finite.get (map_in x.kept.pool.slots)) e call.transfer (descriptor_in x.ram x.kept.buffers e call) refusal),
          ))
          (first_refusal (retrieve_guards call.ffa (scene_in (memory_parts_in x)) e call.transfer (endpoints_named (descriptor_in x.ram x.kept.buffers e call)) (retrieve_of call.ffa e (descriptor_in x.ram x.kept.buffers e call))))
          ≡ with_told s (MemRetrieve call.transfer) (first_refusal (memory_retrieve s call.transfer).guards)
      unfolding first
      retrieve-told alike own =
          (λ i. option_map (λ (refusal : Refusal). (
            refusal,
            explained (where_whole x.kept.buffers (at i) call.transfer (about_retrieve (alike i) (at i) (whole i) refusal)) None
                (mend_asked (alike i) x.kept.buffers (scene-is x machine i).ram (transaction_of s) (at i) call.transfer (whole i) refusal),
          ))
          (first_refusal (retrieve_guards (alike i) (scene-is x machine i) (at i) call.transfer (endpoints_named (whole i)) (retrieve_of (alike i) (at i) (whole i)))))
          ∙ (λ i. told-by (sym own i))

      pub sent-told : (kind : Kind) → call.ffa ≡ x.manifest.ffa
          → option_map (sent_told (scene_in (memory_parts_in x)) e call.ffa kind call.transfer (descriptor_in x.ram x.kept.buffers e call))
          (first_refusal (sends.send_guards call.ffa (scene_in (memory_parts_in x)) e call.transfer (send_of call.ffa kind (descriptor_in x.ram x.kept.buffers e call))))
          ≡ option_map (sent_told (scene_of s) s.runner s.ffa kind call.transfer (sends.descriptor_in s call.transfer.total)) (first_refusal (sends.memory_send s kind call.transfer).guards)
      unfolding first
      sent-told kind serves =
          λ i. option_map (sent_told (scene-is x machine i) (at i) (serves i) kind call.transfer (whole i)) (first_refusal (sends.send_guards (serves i) (scene-is x machine i) (at i) call.transfer (send_of (serves i) kind (whole i))))

    module _ (refusal : Refusal) where
      pub map-failing : (tx rx pages : ℕ) → failing_map e (ownership_in x.kept.pages x.manifest.ram_base.0) tx rx pages refusal ≡ failing_map s.runner (ownership_of s) tx rx pages refusal
      unfolding first
      map-failing tx rx pages = λ i. failing_map (at i) (ownership-is x machine i) tx rx pages refusal

      pub reclaim-told : (h : ℕ)
          → explained None (failing_reclaim (ownership_in x.kept.pages x.manifest.ram_base.0) (finite.get (map_in x.kept.pool.slots) h) refusal) (mend_return e refusal (finite.get (map_in x.kept.pool.slots) h))
          ≡ explained None (failing_reclaim (ownership_of s) (transaction_of s h) refusal) (mend_return s.runner refusal (transaction_of s h))
      unfolding first
      reclaim-told h = λ i. explained None (failing_reclaim (ownership-is x machine i) (transaction_of s h) refusal) (mend_return (at i) refusal (transaction_of s h))

      pub message-told : explained (about_message (buffers_in x.kept.buffers e) (header_in (sent_in x.ram x.kept.buffers e)) refusal) None (mend_message (buffers_in x.kept.buffers e) (header_in (sent_in x.ram x.kept.buffers e)) refusal)
          ≡ explained (about_message (buffers_of s s.runner) (header_in (tx_bytes s s.runner)) refusal) None (mend_message (buffers_of s s.runner) (header_in (tx_bytes s s.runner)) refusal)
      unfolding first
      message-told =
          λ i. explained (about_message (buffers_in x.kept.buffers (at i)) (header_in (sent-is x machine e at i)) refusal) None (mend_message (buffers_in x.kept.buffers (at i)) (header_in (sent-is x machine e at i)) refusal)

      pub bits-told : (call : Call)
          → explained (about_bits (length x.kept.bitmaps.bitmaps) x.kept.bitmaps e call refusal) None (mend_bits x.kept.bitmaps e call (about_bits (length x.kept.bitmaps.bitmaps) x.kept.bitmaps e call refusal))
          ≡ explained (about_bits (length s.parties) (notifications_of s) s.runner call refusal) None (mend_noticed s call refusal)
      unfolding first
      bits-told call =
          λ i. explained (about_bits (each-bitmap x machine i) x.kept.bitmaps (at i) call refusal) None (mend_bits x.kept.bitmaps (at i) call (about_bits (each-bitmap x machine i) x.kept.bitmaps (at i) call refusal))
