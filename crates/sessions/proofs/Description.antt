-- What is written, piece by piece.
use Rattle.std.proofs.Common.{◌≡◌, inr, ℕ, List, Option, Result, Ok, Err, IfOk, OnOk}
use Rattle.std.specs.Io.KnownBytes.{Appends}
use Rattle.text_output.specs.declared.status.Status.{Status}
use Rattle.reader.specs.Listings.{IsListingRefusal}
use Rattle.reader.specs.declared.errors.ListingError.{ListingError}
use Rattle.sessions.specs.Reasons.{listing_reason, listing_status, refusal_of}
use Rattle.sessions.specs.Sessions.{IsListed, Says}

-- a status and a text, from the two clauses of a call
pub said : {E : Type 0} (wanted : Status) (answer : Result Status E) (text : List ℕ) (before after : Option (List ℕ))
    → IfOk answer (λ status. status ≡ wanted) → OnOk answer (Appends before after text) → Says wanted text before after answer
said wanted (Ok status) text before after status_is line = (status_is, line)
said wanted (Err error) text before after status_is line = tt

-- the line of a refusal after what a listing wrote
pub listed_refusal : {E : Type 0} (answer : Result Status E) (error : ListingError) (sectors : ℕ) (image : ℕ → List ℕ) (before mid after : Option (List ℕ))
    → IsListingRefusal sectors image before mid error → IfOk answer (λ status. status ≡ listing_status error)
    → OnOk answer (Appends mid after (refusal_of (listing_reason error))) → IfOk answer (IsListed sectors image before after)
listed_refusal (Ok status) error sectors image before mid after cause status_is line = inr (error, status_is, mid, cause, line)
listed_refusal (Err e) error sectors image before mid after cause status_is line = tt
