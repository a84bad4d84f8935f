-- The lines of questions (this project's own format): those of an answers file that confirms all of them.
use Rattle.std.specs.Prelude.{ℕ, List, [], ◌∷◌, ◌++◌, codes}
use Rattle.hex.specs.Hex.{encode_lower}
use Rattle.cert_store.specs.Rules.{QuestionView}

-- key, digest and signature in lower case hex digits
unfoldable pub ask_line : QuestionView → List ℕ
ask_line asked = codes "confirm " ++ (encode_lower asked.key
    ++ (codes " " ++ (encode_lower asked.digest ++ (codes " " ++ (encode_lower asked.signature ++ codes "\n")))))

abbrev pub ask_lines : List QuestionView → List ℕ
ask_lines [] = []
ask_lines (asked ∷ others) = ask_line asked ++ ask_lines others
