-- What an assembler keeps stays what is to be known of the groups.
use Rattle.std.proofs.Common.{◌≡◌, List, ◌∷◌, Bool, true, false, cond, Some, sym, ap, ◌∙◌, subst}
use Rattle.balise_groups.specs.declared.reading.Reading.{Reading}
use Rattle.balise_groups.specs.declared.assembler.Seen.{Seen}
use Rattle.balise_groups.specs.Closing.{is_whole}
use Rattle.balise_groups.specs.Groups.{Groups, KnownGroups, with_reading, counting, newest, seen_at, goes_on, ended, joined_by, after_reading, known_of}

module _ (reading : Reading) (groups : Groups) where
  abbrev pub with_one : Groups
  with_one = record { current = reading ∷ groups.current; last = groups.last }

  -- one more reading of the group being read
  pub one_more : (k : KnownGroups) (readings : List Reading) (seen : Seen) → k ≡ known_of groups → readings ≡ with_reading k.readings reading → seen ≡ seen_at reading
      → record { readings = readings; current = Some seen; last = k.last } ≡ known_of with_one
  one_more k readings seen is readings_are seen_is = λ i. record {
    readings = (readings_are ∙ ap (λ (k : KnownGroups). with_reading k.readings reading) is) i;
    current = Some (seen_is i);
    last = ap (λ (k : KnownGroups). k.last) is i;
  }

  -- which makes it whole
  pub whole_now : (k : KnownGroups) → is_whole (counting with_one.current) ≡ true → k ≡ known_of (ended with_one) → k ≡ known_of (joined_by reading groups)
  whole_now k whole is = subst (λ (b : Bool). k ≡ known_of (cond b (ended with_one) with_one)) (sym whole) is

  -- a telegram that isn't ignored
  pub not_ignored : (k : KnownGroups) (b : Bool) → goes_on reading (newest groups.last) ≡ false → goes_on reading (newest groups.current) ≡ b
      → k ≡ known_of (cond b (joined_by reading groups) (joined_by reading (ended groups))) → k ≡ known_of (after_reading reading groups)
  not_ignored k b other current is =
      subst (λ (a : Bool). k ≡ known_of (cond a (record { current = groups.current; last = reading ∷ groups.last }) (cond (goes_on reading (newest groups.current)) (joined_by reading groups) (joined_by reading (ended groups))))) (sym other)
      (subst (λ (a : Bool). k ≡ known_of (cond a (joined_by reading groups) (joined_by reading (ended groups)))) (sym current) is)
