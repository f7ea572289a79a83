-- What is reported of an image at first sight (this project's profile).
use Rattle.std.specs.Prelude.{◌≡◌, ℕ, List, Option, Some, None}
use Rattle.examination.specs.Lost.{Surveys}
use Rattle.examination.specs.declared.survey.Survey.{Survey}
use Rattle.image_calls.specs.Answers.{Refuses, Gives}
use Rattle.image_calls.specs.ImageDisk.{sectors_in, image_of}
use Rattle.image_calls.specs.declared.answer.Answer.{Answer}
use Rattle.image_calls.specs.declared.answer.Answer.TheVariants as an_answer
use Rattle.image_calls.specs.declared.facts.EtcsImage.{EtcsImage}

-- as C sees it
abbrev pub facts_of : Survey → ℕ → EtcsImage
facts_of survey slots = record { sectors = survey.sectors; slots = slots; whole = survey.whole; newest = survey.newest }

abbrev pub facts_with : Survey → Option ℕ → EtcsImage → EtcsImage → Answer → Type 0
facts_with survey None old new answer = Refuses an_answer.NotFormatted old new answer
facts_with survey (Some slots) old new answer = Gives (facts_of survey slots) new answer

-- what was seen is reported; NotFormatted where no number of slots was
abbrev pub DescribesFacts : Survey → EtcsImage → EtcsImage → Answer → Type 0
DescribesFacts survey old new answer = facts_with survey survey.slots old new answer

-- what a survey of the image sees is reported
abbrev pub AsksFacts : List ℕ → EtcsImage → EtcsImage → Answer → Type 0
AsksFacts bytes old new answer = (survey : Survey) × (survey.sectors ≡ sectors_in bytes) × Surveys (sectors_in bytes) (image_of bytes) survey
    × DescribesFacts survey old new answer
