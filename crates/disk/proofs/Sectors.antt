-- Sectors of some bytes.
use Rattle.std.proofs.Common.{◌≡◌, ℕ, ◌-◌, ◌*◌, ◌<◌, ◌≤◌, List, [], length, take, drop, replicate, refl, ◌∙◌, ap, arith, length-drop}
use Rattle.std.proofs.lemmas.List.{length-take-le, drop-replicate, take-replicate}
use Rattle.std.proofs.Math.ListN.{drop_of_length-le}
use Rattle.disk.specs.State.{sector_of}

-- so many bytes have no sector past their end
pub sector_past : (bytes : List ℕ) (sectors s : ℕ) → length bytes ≡ 512 * sectors → sectors ≤ s → sector_of bytes s ≡ []
sector_past bytes sectors s size past = ap (λ (l : List ℕ). take 512 l) (drop_of_length-le bytes (omega arith)) ∙ refl

-- and whole ones before it
pub sector_whole : (bytes : List ℕ) (sectors s : ℕ) → length bytes ≡ 512 * sectors → s < sectors → length (sector_of bytes s) ≡ 512
sector_whole bytes sectors s size below = length-take-le 512 (drop (512 * s) bytes) (omega (arith, length-drop (512 * s) bytes))

-- of zeros each is zeros
pub zeros_at : (bytes : List ℕ) (sectors s : ℕ) → bytes ≡ replicate (512 * sectors) 0 → s < sectors → sector_of bytes s ≡ replicate 512 0
zeros_at bytes sectors s is below =
    ap (λ (l : List ℕ). sector_of l s) is ∙ ap (λ (l : List ℕ). take 512 l) (drop-replicate (512 * s) (512 * sectors) 0) ∙ take-replicate 512 (512 * sectors - 512 * s) 0 (omega arith)
