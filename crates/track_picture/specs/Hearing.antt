-- What becomes of the bytes that a balise sends, as the next event of a life (SUBSET-026, 3.4 and 8.4.2). Lists of
-- entries have the newest first.
use Rattle.std.specs.Prelude.{◌≡◌, ℕ, List, Some}
use Rattle.balise_groups.specs.Hearing.{hearing_of}
use Rattle.telegram.specs.Telegrams.{RefusesBytes}
use Rattle.telegram.specs.declared.message.Telegram.{Telegram}
use Rattle.track_picture.specs.Bytes.{telegram_in}
use Rattle.track_picture.specs.Entry.{TrackEntry}
use Rattle.track_picture.specs.History.{place_of, groups_of}
use Rattle.track_picture.specs.declared.hearing.TelegramOutcome.{TelegramOutcome}
use Rattle.track_picture.specs.declared.hearing.TelegramOutcome.TheVariants.{NoTelegram, Heard}

-- a fault is that of the decoder; a telegram counts by the groups of the life, and the path at it
abbrev pub IsHeardSo : List TrackEntry → List ℕ → TelegramOutcome → Type 0
IsHeardSo entries bytes (NoTelegram fault) = RefusesBytes fault bytes
IsHeardSo entries bytes (Heard hearing) = (t : Telegram) × (telegram_in bytes ≡ Some t)
    × (hearing ≡ hearing_of (record { telegram = t; sums = (place_of entries).sums }) (groups_of entries))
