-- The records of a unit's events are answers.
use Rattle.std.proofs.Common.{◌≡◌, ◌∙◌, ℕ, suc, List, [], ◌∷◌, ◌++◌, length, map, refl, sym, ap, subst}
use Rattle.blocks.specs.Blocks.{event_reported, record_reported}
use Rattle.blocks.specs.declared.block.Block.{Block}
use Rattle.blocks.specs.declared.format.Format.{Format}
use Rattle.blocks.specs.declared.format.Format.TheVariants.{Three}
use Rattle.blocks.specs.declared.records.BlockRecord.{BlockRecord}
use Rattle.blocks.specs.declared.records.Record.{Record}
use Rattle.events.specs.declared.input.Event.{Event}
use Rattle.events.specs.declared.input.Event.TheVariants as an_event
use Rattle.kernel.specs.Lives.{Past, past_of, past_after, past_at, number_at, story_of}
use Rattle.unit_start.specs.Events.{record_in, record_at, record_of, records_of, moment_of, account_of}
use Rattle.ring.specs.Account.{Describes}
use Rattle.replaying.specs.Following.{answer_to, AreAnswers}

-- records, one after another
abbrev AreRecords : List Event → List Record → Type 0
AreRecords s [] = Unit {0}
AreRecords s (r ∷ rs) = (r ≡ record_of s r.event) × AreRecords (r.event ∷ s) rs

abbrev events_after : List Record → List Event → List Event
events_after [] s = s
events_after (r ∷ rs) s = events_after rs (r.event ∷ s)

-- one more
one_more : (s : List Event) (rs : List Record) (r : Record) → AreRecords s rs → r ≡ record_of (events_after rs s) r.event → AreRecords s (rs ++ r ∷ [])
one_more s [] r are is = (is, tt)
one_more s (first ∷ rs) r are is = (are.0, one_more (first.event ∷ s) rs r are.1 is)

after_one_more : (s : List Event) (rs : List Record) (r : Record) → events_after (rs ++ r ∷ []) s ≡ r.event ∷ events_after rs s
after_one_more s [] r = refl
after_one_more s (first ∷ rs) r = after_one_more (first.event ∷ s) rs r

-- those of a list of events
all_after : (events : List Event) → events_after (records_of events) [] ≡ events
all_after [] = refl
all_after (event ∷ events) = after_one_more [] (records_of events) (record_of events event) ∙ ap (λ (l : List Event). event ∷ l) (all_after events)

all_records : (events : List Event) → AreRecords [] (records_of events)
all_records [] = tt
all_records (event ∷ events) =
    let last : record_of events event ≡ record_of (events_after (records_of events) []) event = ap (λ (l : List Event). record_of l event) (sym (all_after events)) in
    one_more [] (records_of events) (record_of events event) (all_records events) last

-- the later ones, and the earlier ones
later : (s : List Event) (xs ys : List Record) → AreRecords s (xs ++ ys) → AreRecords (events_after xs s) ys
later s [] ys are = are
later s (x ∷ xs) ys are = later (x.event ∷ s) xs ys are.1

earlier : (s : List Event) (xs ys : List Record) → AreRecords s (xs ++ ys) → AreRecords s xs
earlier s [] ys are = tt
earlier s (x ∷ xs) ys are = (are.0, earlier (x.event ∷ s) xs ys are.1)

-- format 3 reports the event as it is
reported_so : (event : Event) → event_reported Three event ≡ event
reported_so (an_event.PowerUp cold) = refl
reported_so (an_event.Input input) = refl

-- the records of a list of events are those after its story
past_same : (s : List Event) → past_of s ≡ past_at (story_of s)
past_same [] = refl
past_same (event ∷ s) = ap (λ (p : Past). past_after p event) (past_same s)

number_same : (s : List Event) → length s ≡ number_at (story_of s)
number_same [] = refl
number_same (event ∷ s) = ap suc (number_same s)

record_same : (s : List Event) (event : Event) → record_of s event ≡ record_at (story_of s) event
record_same s event =
    λ i. record_in (past_after (past_same s i) event).life (number_same s i) event (moment_of (event ∷ s))

reported_answers : (s : List Event) (rs : List Record) → AreRecords s rs → AreAnswers Three (story_of s) (map (record_reported Three) rs)
reported_answers s [] are = tt
reported_answers s (r ∷ rs) are =
    let same : event_reported Three r.event ≡ r.event = reported_so r.event in
    let rest : AreAnswers Three (story_of (event_reported Three r.event ∷ s)) (map (record_reported Three) rs) =
    subst (λ (e : Event). AreAnswers Three (story_of (e ∷ s)) (map (record_reported Three) rs)) (sym same) (reported_answers (r.event ∷ s) rs are.1) in
    let first : record_reported Three r ≡ answer_to Three (story_of s) (event_reported Three r.event) =
    ap (record_reported Three) (are.0 ∙ record_same s r.event) ∙ ap (λ (e : Event). answer_to Three (story_of s) e) (sym same) in
    (first, rest)

pub units_agree : (whole_from : ℕ) (events : List Event) (block : Block) → Describes (account_of whole_from events) block → block.format ≡ Three → (s : List Event) × AreAnswers block.format (story_of s) block.records.items
units_agree whole_from events block describes three =
    let all : AreRecords [] (describes.before ++ (describes.its ++ describes.after)) = subst (AreRecords []) describes.split (all_records events) in
    let s = events_after describes.before [] in
    let its : AreRecords s describes.its = earlier s describes.its describes.after (later [] describes.before (describes.its ++ describes.after) all) in
    let answers : AreAnswers Three (story_of s) (map (record_reported Three) describes.its) = reported_answers s describes.its its in
    let reported : AreAnswers block.format (story_of s) (map (record_reported block.format) describes.its) =
    subst (λ (f : Format). AreAnswers f (story_of s) (map (record_reported f) describes.its)) (sym three) answers in
    (s, subst (λ (rs : List BlockRecord). AreAnswers block.format (story_of s) rs) (sym describes.records) reported)
