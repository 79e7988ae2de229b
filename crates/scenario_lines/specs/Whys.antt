-- The texts of the whys.
use Rattle.std.specs.Prelude.{ℕ, List, codes}
use Rattle.scenario_lines.specs.declared.why.Why.{Why}
use Rattle.scenario_lines.specs.declared.why.Why.TheVariants.{Version, OutOfPlace, UnknownWord, WordCount, BadNumber, BadKey, Repeated, UnknownName}
use Rattle.scenario_lines.specs.declared.why.Why.TheVariants.{BadPath, BadWord, BadLetters, TooMany, NoDone, TooLong}

-- The text of a why, as fault lines print it.
abbrev pub why_text : Why → List ℕ
why_text Version = codes "not guardian 1"
why_text OutOfPlace = codes "out of place"
why_text UnknownWord = codes "unknown word"
why_text WordCount = codes "word count"
why_text BadNumber = codes "bad number"
why_text BadKey = codes "bad key"
why_text Repeated = codes "repeated"
why_text UnknownName = codes "unknown name"
why_text BadPath = codes "bad path"
why_text BadWord = codes "bad word"
why_text BadLetters = codes "bad letters"
why_text TooMany = codes "too many"
why_text NoDone = codes "no done"
why_text TooLong = codes "too long"
