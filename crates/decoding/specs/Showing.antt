-- What is written of the digits of a telegram (this project's profile).
use Rattle.std.specs.Prelude.{◌≡◌, ◌⊎◌, ℕ, List, Option, Ok, Err, codes}
use Rattle.std.specs.Io.KnownBytes.{Appends}
use Rattle.hex.specs.Hex.{decode_of}
use Rattle.hex.specs.declared.error.FromHexError.{FromHexError}
use Rattle.text_output.specs.declared.status.Status.{Status}
use Rattle.text_output.specs.declared.status.Status.TheVariants.{Done, Refused}
use Rattle.telegram.specs.Telegrams.{Carries, RefusesBytes}
use Rattle.telegram.specs.declared.fault.TelegramFault.{TelegramFault}
use Rattle.telegram.specs.declared.message.Telegram.{Telegram}
use Rattle.decoding.specs.Lines.{telegram_lines, refusal_line}

-- the bytes carry a telegram, and its lines were written
abbrev pub DescribesTelegram : List ℕ → Option (List ℕ) → Option (List ℕ) → Type 0
DescribesTelegram bytes before after = (telegram : Telegram) × Carries bytes telegram × Appends before after (telegram_lines telegram)

-- the bytes have a fault, and its line was written
abbrev pub DescribesFault : List ℕ → Option (List ℕ) → Option (List ℕ) → Type 0
DescribesFault bytes before after = (fault : TelegramFault) × RefusesBytes fault bytes × Appends before after (refusal_line fault)

-- Done: the bytes carry a telegram. Refused: they carry none.
abbrev pub IsAnswered : List ℕ → Option (List ℕ) → Option (List ℕ) → Status → Type 0
IsAnswered bytes before after status =
    ((status ≡ Done) × DescribesTelegram bytes before after)
    ⊎ ((status ≡ Refused) × DescribesFault bytes before after)

-- the digits spell no bytes, and the line of that was written
abbrev pub IsNoHex : List ℕ → Option (List ℕ) → Option (List ℕ) → Type 0
IsNoHex text before after = (error : FromHexError) × (decode_of text ≡ Err error) × Appends before after (codes "refused hex\n")

-- What the bytes are answered that the digits spell. Or Refused: they spell none, or memory was refused, and the line
-- of that was written.
abbrev pub IsPrinted : List ℕ → Option (List ℕ) → Option (List ℕ) → Status → Type 0
IsPrinted text before after status =
    ((bytes : List ℕ) × (decode_of text ≡ Ok bytes) × IsAnswered bytes before after status)
    ⊎ ((status ≡ Refused) × (IsNoHex text before after ⊎ Appends before after (codes "refused memory\n")))
