-- Packets one after another: spelled, and read once.
use Rattle.std.proofs.Common.{◌≡◌, ◌<◌, inl, Bool, List, [], ◌∷◌, ◌++◌, length, Some, None, refl, sym, ap, subst, ◌∙◌, append_assoc}
use Rattle.bits.specs.Layout.{Begins, Refuses}
use Rattle.bits.proofs.Laws.{begins_once, begins_not_refused, refused_once}
use Rattle.packets.specs.declared.packet.Packet.{Packet}
use Rattle.telegram.specs.declared.fault.TelegramFault.{TelegramFault}
use Rattle.telegram.specs.declared.fault.TelegramFault.TheVariants.{NoEnd}
use Rattle.telegram.specs.Sequences.{BeginsPackets}
use Rattle.telegram.specs.Telegrams.{next_packet, SpellsPackets, RefusesPackets}

pub packets_spelled : (ps : List Packet) (bits rest : List Bool) → BeginsPackets ps bits rest → (front : List Bool) × (bits ≡ front ++ rest) × SpellsPackets ps front
packets_spelled [] bits rest b = (b.front, b.parts, b.spelled)
packets_spelled (p ∷ ps) bits rest b =
    let more = packets_spelled ps b.0 rest b.2 in
    (b.1.front ++ more.0, b.1.parts ∙ ap (λ (t : List Bool). b.1.front ++ t) more.1 ∙ sym (append_assoc b.1.front more.0 rest), (b.1.front, more.0, refl, b.1.spelled, more.2))

pub packets_begin : (ps : List Packet) (front rest : List Bool) → SpellsPackets ps front → BeginsPackets ps (front ++ rest) rest
packets_begin [] front rest s = record { front = front; parts = refl; spelled = s }
packets_begin (p ∷ ps) front rest s = (s.1 ++ rest, record { front = s.0; parts = ap (λ (t : List Bool). t ++ rest) s.2 ∙ append_assoc s.0 s.1 rest; spelled = s.3 }, packets_begin ps s.1 rest s.4)

-- ---- once

none_or_some : {A : Type 0} (x : A) → None ≡ Some x → ⊥
none_or_some x e = absurd cc

some_same : {A : Type 0} (x y : A) → Some x ≡ Some y → x ≡ y
some_same x y e = cc

pub packets_once : (ps qs : List Packet) (bits r s : List Bool) → BeginsPackets ps bits r → BeginsPackets qs bits s → (ps ≡ qs) × (r ≡ s)
packets_once [] [] bits r s b d = (refl, (begins_once next_packet None None bits r s b d).1)
packets_once [] (q ∷ qs) bits r s b d = absurd (none_or_some q (begins_once next_packet None (Some q) bits r d.0 b d.1).0)
packets_once (p ∷ ps) [] bits r s b d = absurd (none_or_some p (begins_once next_packet None (Some p) bits s b.0 d b.1).0)
packets_once (p ∷ ps) (q ∷ qs) bits r s b d =
    let first = begins_once next_packet (Some p) (Some q) bits b.0 d.0 b.1 d.1 in
    let others = packets_once ps qs b.0 r s b.2 (subst (λ (t : List Bool). BeginsPackets qs t s) (sym first.1) d.2) in
    let head = some_same p q first.0 in
    (let tail = others.0 in cc, others.1)

pub packets_not_refused : (ps qs : List Packet) (e : TelegramFault) (bits rest : List Bool) → BeginsPackets ps bits rest → RefusesPackets e qs bits → ⊥
packets_not_refused [] [] e bits rest b r = begins_not_refused next_packet None e bits rest b r
packets_not_refused [] (q ∷ qs) e bits rest b r = none_or_some q (begins_once next_packet None (Some q) bits rest r.0 b r.1).0
packets_not_refused (p ∷ ps) [] e bits rest b r = begins_not_refused next_packet (Some p) e bits b.0 b.1 r
packets_not_refused (p ∷ ps) (q ∷ qs) e bits rest b r =
    let first = begins_once next_packet (Some p) (Some q) bits b.0 r.0 b.1 r.1 in
    packets_not_refused ps qs e b.0 rest b.2 (subst (λ (t : List Bool). RefusesPackets e qs t) (sym first.1) r.2)

pub packets_refused_once : (ps qs : List Packet) (d e : TelegramFault) (bits : List Bool) → RefusesPackets d ps bits → RefusesPackets e qs bits → d ≡ e
packets_refused_once [] [] d e bits r s = refused_once next_packet d e bits r s
packets_refused_once [] (q ∷ qs) d e bits r s = absurd (begins_not_refused next_packet (Some q) d bits s.0 s.1 r)
packets_refused_once (p ∷ ps) [] d e bits r s = absurd (begins_not_refused next_packet (Some p) e bits r.0 r.1 s)
packets_refused_once (p ∷ ps) (q ∷ qs) d e bits r s =
    let first = begins_once next_packet (Some p) (Some q) bits r.0 s.0 r.1 s.1 in
    packets_refused_once ps qs d e r.0 r.2 (subst (λ (t : List Bool). RefusesPackets e qs t) (sym first.1) s.2)

-- ---- one more packet

-- too few bits for a number
pub no_end : (bits : List Bool) → length bits < 8 → Refuses next_packet NoEnd bits
unfolding next_packet
no_end bits few = inl (inl (few, refl))

pub one_more_begins : (ps : List Packet) (p : Packet) (all bits next : List Bool) → Begins next_packet (Some p) bits next
    → ((qs : List Packet) (rest : List Bool) → BeginsPackets qs bits rest → BeginsPackets (ps ++ qs) all rest)
    → (qs : List Packet) (rest : List Bool) → BeginsPackets qs next rest → BeginsPackets ((ps ++ p ∷ []) ++ qs) all rest
one_more_begins ps p all bits next b so_far qs rest more = rw append_assoc (so_far (p ∷ qs) rest (next, b, more))

pub one_more_refused : (ps : List Packet) (p : Packet) (all bits next : List Bool) → Begins next_packet (Some p) bits next
    → ((e : TelegramFault) (qs : List Packet) → RefusesPackets e qs bits → RefusesPackets e (ps ++ qs) all)
    → (e : TelegramFault) (qs : List Packet) → RefusesPackets e qs next → RefusesPackets e ((ps ++ p ∷ []) ++ qs) all
one_more_refused ps p all bits next b so_far e qs more = rw append_assoc (so_far e (p ∷ qs) (next, b, more))
