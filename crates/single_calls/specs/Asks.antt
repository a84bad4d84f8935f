-- What is asked of a provider of signatures for the calls of a log, each question once (this project's own format): the
-- lines of an answers file that confirms all of them.
use Rattle.std.specs.Prelude.{Bool, true, false, ◌&&◌, ℕ, List, [], ◌∷◌, ◌++◌}
use Rattle.std.specs.List.{list_any}
use Rattle.std.specs.Str.{bytes_eq}
use Rattle.call_log.specs.Entry.{Entry}
use Rattle.cert_store.specs.Rules.{QuestionView}
use Rattle.verify_rules.specs.World.{World}
use Rattle.verify_rules.specs.declared.settings.Settings.{Settings}
use Rattle.verify_service.specs.Judging.{call_in}
use Rattle.call_judging.specs.AskLines.{ask_lines}
use Rattle.call_judging.specs.CallQuestions.{call_questions}

-- ---- each once

abbrev pub is_same : QuestionView → QuestionView → Bool
is_same one other =
    bytes_eq one.key other.key && (bytes_eq one.digest other.digest && bytes_eq one.signature other.signature)

-- one of these is this question
abbrev pub was_asked : List QuestionView → QuestionView → Bool
was_asked before asked = list_any (λ one. is_same one asked) before

abbrev pub unless_asked : Bool → QuestionView → List QuestionView → List QuestionView
unless_asked true asked others = others
unless_asked false asked others = asked ∷ others

-- those of these questions that weren't asked before, each once
abbrev pub fresh : List QuestionView → List QuestionView → List QuestionView
fresh before [] = []
fresh before (asked ∷ others) = unless_asked (was_asked before asked) asked (fresh (before ++ asked ∷ []) others)

-- ---- of a log

-- those of each call, in the order of the log
abbrev pub calls_questions : World → Settings → List Entry → List QuestionView
calls_questions world settings [] = []
calls_questions world settings (entry ∷ entries) =
    call_questions world (call_in settings entry) ++ calls_questions world settings entries

-- What is asked for these calls, each question once.
abbrev pub asked_of : World → Settings → List Entry → List QuestionView
asked_of world settings entries = fresh [] (calls_questions world settings entries)

-- The lines of what is asked for these calls.
abbrev pub Asks : World → Settings → List Entry → List ℕ
Asks world settings entries = ask_lines (asked_of world settings entries)
