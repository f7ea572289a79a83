use Rattle.std.proofs.Common.{◌≡◌, ℕ, ◌+◌, Bool, true, false, List, ◌∷◌, length, refl, ap, sym, subst, add-one, arith, ◌∙◌}
use Rattle.std.specs.Prelude.{◌||◌}
use Rattle.std.specs.List.{list_any}
use Rattle.packets.specs.declared.packet.Packet.{Packet}
use Rattle.track_picture.specs.Columns.{after_facts}
use Rattle.track_picture.specs.Steps.{facts}
use Rattle.track_picture.specs.Happenings.{comes_later}
use Rattle.track_picture.proofs.Walking.{one_packet}
use Rattle.track_picture.proofs.using.take_all.Goals as goal

or_next : (a b c : Bool) → (a || (b || c)) ≡ ((a || b) || c)
or_next true b c = refl
or_next false b c = refl

-- one packet more is still to come
pub take_one-requires : goal.take_one-requires
take_one-requires g c =
    let next : c.packets.walk ≡ c.next_into.new.item.packet ∷ c.next_into.new.self = rw c.packets-test.true at c.next_into.ensures.some in
    let one : length c.packets.walk ≡ length c.next_into.new.self + 1 = rw add-one (ap length next) in
    (length c.next_into.new.self, subst (λ (n : ℕ). g.W.Walk.HasSpace n 0 c.packets.state) one (c.packets.invariant.1 0 c.requires))

pub packets-smaller : goal.packets-smaller
packets-smaller g c =
    let next : c.packets.walk ≡ c.next_into.new.item.packet ∷ c.next_into.new.self = rw c.packets-test.true at c.next_into.ensures.some in
    let one : length c.packets.walk ≡ length c.next_into.new.self + 1 = rw add-one (ap length next) in
    omega (arith, one)

pub packets-preserved : goal.packets-preserved
packets-preserved g c =
    let next : c.packets.walk ≡ c.next_into.new.item.packet ∷ c.next_into.new.self = rw c.packets-test.true at c.next_into.ensures.some in
    let one : length c.packets.walk ≡ length c.next_into.new.self + 1 = rw add-one (ap length next) in (
      λ reported s. (let before = c.packets.invariant.0 reported s in
          let used = c.args.used.now in
          let rest = c.next_into.new.self in
          let packet = c.packet.result.now in (
            _,
            c.take_one.ensures.reported before.0 before.1,
            sym (one_packet g.W.Walk.after used packet rest before.0)
                ∙ ap (λ (p : Packet). after_facts g.W.Walk.after (facts used (p ∷ rest)) before.0) c.packet.ensures
                ∙ sym (ap (λ (ps : List Packet). after_facts g.W.Walk.after (facts used ps) before.0) next)
                ∙ before.2,
          )),
      λ following space. c.take_one.ensures.space (length c.next_into.new.self) following
          (subst (λ (n : ℕ). g.W.Walk.HasSpace n following c.packets.state) one (c.packets.invariant.1 following space)),
      (let rest = c.next_into.new.self in
          let packet = c.packet-in-packets.result.now in
          c.packets.invariant.2
          ∙ ap (λ (ps : List Packet). c.packets.later || list_any comes_later ps) next
          ∙ ap (λ (p : Packet). c.packets.later || (comes_later p || list_any comes_later rest)) (sym c.packet-in-packets.ensures)
          ∙ or_next c.packets.later (comes_later packet) (list_any comes_later rest)
          ∙ ap (λ (b : Bool). b || list_any comes_later rest) (sym c.met_later-later.ensures)),
      omega (arith, one, c.packets.invariant.3),
      λ none. absurd (omega (arith, one, none, c.packets.invariant.3)),
    )
