use Rattle.std.proofs.Common.{◌≡◌, ℕ, Bool, true, false, if◌then◌else◌, List, [], ◌++◌, Option, None, Some, sym, ap, ◌∙◌}
use Rattle.std.proofs.lemmas.List.{append-nil}
use Rattle.bits.specs.Bits.{bits_of}
use Rattle.telegram.specs.declared.fault.TelegramFault.{TelegramFault}
use Rattle.track_packets.specs.Listing.{listing_of}
use Rattle.track_packets.specs.declared.listing.Listing.{Listing}
use Rattle.track_packets.specs.declared.listing.PacketPlace.{PacketPlace}
use Rattle.track_guard.specs.Demands.{demands_in, demands_of, fault_found, packets_found}
use Rattle.track_guard.specs.Findings.{has_known_packets}
use Rattle.track_guard.specs.declared.demanding.Demand.{Demand}
use Rattle.track_guard.specs.declared.demanding.Situation.{Situation}
use Rattle.track_guard.proofs.demanding.demands.Goals as goal

-- the packets that are looked at
looked_at : (bytes : List ℕ) (known : Bool) → known ≡ has_known_packets (bits_of bytes)
    → (if known then (listing_of bytes).packets.items else []) ≡ packets_found bytes
looked_at bytes known e = ap (λ b. if b then (listing_of bytes).packets.items else []) e

-- the demand of the telegram, and those of its packets
all_of : (s : Situation) (bytes : List ℕ) (fault : Option TelegramFault) (before after : List Demand) (packets : List PacketPlace)
    → before ≡ fault_found s bytes fault → packets ≡ packets_found bytes → after ≡ before ++ demands_in s bytes packets
    → after ≡ demands_of s bytes fault
all_of s bytes fault before after packets b p a =
    a ∙ ap (λ (xs : List Demand). xs ++ demands_in s bytes packets) b
    ∙ ap (λ (ps : List PacketPlace). fault_found s bytes fault ++ demands_in s bytes ps) p

-- where a fault is another one, the demand is the same
of_fault : (s : Situation) (bytes : List ℕ) (before : List Demand) (fault other : Option TelegramFault) → fault ≡ other
    → before ≡ fault_found s bytes fault → before ≡ fault_found s bytes other
of_fault s bytes before fault other e b = b ∙ ap (λ (f : Option TelegramFault). fault_found s bytes f) e

pub returns-then-has_known_packets : goal.returns-then-has_known_packets
returns-then-has_known_packets c =
    let s = c.args.situation in
    let bytes = c.args.bytes.now in
    let known = c.has_known_packets.ensures in
    let yes = c.if-has_known_packets.true in
    let packets = c.as_slice.ensures.value ∙ ap (λ (l : Listing). l.packets.items) c.packets_in_order-listing.ensures
    ∙ looked_at bytes true (sym yes ∙ known) in
    record {
      carried = λ t carries.
          all_of s bytes None c.add_refused.new.demands.items c.add_packets.new.demands.items c.as_slice.result.now
          (of_fault s bytes c.add_refused.new.demands.items c.fault_of-fault.result None (c.fault_of-fault.ensures.carried t carries) c.add_refused.ensures.all)
          packets c.add_packets.ensures;
      refused = λ e refuses.
          all_of s bytes (Some e) c.add_refused.new.demands.items c.add_packets.new.demands.items c.as_slice.result.now
          (of_fault s bytes c.add_refused.new.demands.items c.fault_of-fault.result (Some e) (c.fault_of-fault.ensures.refused e refuses) c.add_refused.ensures.all)
          packets c.add_packets.ensures;
    }

pub returns-else-has_known_packets : goal.returns-else-has_known_packets
returns-else-has_known_packets c =
    let s = c.args.situation in
    let bytes = c.args.bytes.now in
    let known = c.has_known_packets.ensures in
    let no = c.if-has_known_packets.false in
    let packets = looked_at bytes false (sym no ∙ known) in
    record {
      carried = λ t carries.
          all_of s bytes None c.add_refused.new.demands.items c.add_refused.new.demands.items []
          (of_fault s bytes c.add_refused.new.demands.items c.fault_of-fault.result None (c.fault_of-fault.ensures.carried t carries) c.add_refused.ensures.all)
          packets (sym (append-nil c.add_refused.new.demands.items));
      refused = λ e refuses.
          all_of s bytes (Some e) c.add_refused.new.demands.items c.add_refused.new.demands.items []
          (of_fault s bytes c.add_refused.new.demands.items c.fault_of-fault.result (Some e) (c.fault_of-fault.ensures.refused e refuses) c.add_refused.ensures.all)
          packets (sym (append-nil c.add_refused.new.demands.items));
    }
