use Rattle.std.proofs.Common.{◌≡◌, List, Bool, ◌++◌, ap, sym, subst, ◌∙◌}
use Rattle.std.proofs.lemmas.List.{append_cancel_right}
use Rattle.telegram.specs.Telegrams.{SpellsTelegram}
use Rattle.telegram.specs.declared.message.Telegram.{Telegram}
use Rattle.telegram.proofs.Answering.{BeginsTelegram, spelled_begins, telegram_once}
use Rattle.telegram.proofs.laws.telegrams_spelled_once.Goals as goal

once : (s t : Telegram) (a b u v : List Bool) → SpellsTelegram s a → SpellsTelegram t b → a ++ u ≡ b ++ v → (s ≡ t) × (a ≡ b)
once s t a b u v one two e =
    let second : BeginsTelegram t (a ++ u) v = subst (λ (x : List Bool). BeginsTelegram t x v) (sym e) (spelled_begins t b v two) in
    let same = telegram_once s t (a ++ u) u v (spelled_begins s a u one) second in
    (same.0, append_cancel_right a b u (e ∙ ap (λ (w : List Bool). b ++ w) (sym same.1)))

pub returns : goal.returns
returns c = once
