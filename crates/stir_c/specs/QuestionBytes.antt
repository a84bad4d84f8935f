-- Questions as they are handed to C: 161 bytes each.
use Rattle.std.specs.Prelude.{ℕ, List, [], ◌∷◌, ◌++◌}
use Rattle.cert_store.specs.Rules.{QuestionView}

-- the point of the key (65 bytes), the digest (32), and the numbers r and s of the signature (64)
abbrev pub question_bytes : QuestionView → List ℕ
question_bytes asked = asked.key ++ (asked.digest ++ asked.signature)

abbrev pub questions_bytes : List QuestionView → List ℕ
questions_bytes [] = []
questions_bytes (asked ∷ others) = question_bytes asked ++ questions_bytes others
