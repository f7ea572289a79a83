use Rattle.std.proofs.Common.{◌≡◌, ◌+◌, ℕ, suc, List, [], ◌∷◌, length, ap, refl, sym, ◌∙◌}
use Rattle.packets.specs.Packets.{length_of}
use Rattle.packets.specs.declared.packet.Packet.{Packet}
use Rattle.telegram.specs.Walks.{Walk, located_from}
use Rattle.telegram.proofs.walk.Packets.len.Goals as goal

length-located : (bytes : List ℕ) (start : ℕ) (ps : List Packet) → length (located_from bytes start ps) ≡ length ps
length-located bytes start [] = refl
length-located bytes start (p ∷ ps) = ap suc (length-located bytes (start + length_of p) ps)

pub returns : goal.returns
returns c = sym (ap (λ (w : Walk). length w.items) (sym c.self.view_is) ∙ length-located _ _ _ ∙ c.self.invariant.2)
