use Rattle.std.proofs.Common.{rules}
use Rattle.national.proofs.country_values.CountryValues.reported_by.Goals as goal

pub returns : goal.returns
returns c = search rules
