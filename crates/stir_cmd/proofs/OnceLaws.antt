-- What `once` answers to bytes is what its words say, and what it promises follows.
use Rattle.std.proofs.Common.{◌≡◌, ℕ, ◌≤◌, inl, inr, Bool, true, false, List, refl, sym, ◌∙◌, subst, arith}
use Rattle.std.specs.Io.KnownBytes.{Appends}
use Rattle.log_run.specs.Ending.{report_status}
use Rattle.once_run.specs.Lines.{all_won}
use Rattle.once_run.specs.Ran.{ReportView, Reports}
use Rattle.once_run.specs.TicketText.{IsBadLine}
use Rattle.stir_cmd.specs.Answer.{refused_input}
use Rattle.stir_cmd.specs.Claiming.{ClaimedInput, OnceGives, once_answering, once_course}
use Rattle.stir_cmd.specs.Input.{Answered, CameInput, IsReply, Replied}
use Rattle.stir_cmd.specs.Outside.{Io, Outside, io_in}
use Rattle.stir_cmd.proofs.InputLaws.{Decides, IsAnswer, keeps_input, keeps_whole}
use Rattle.stir_cmd.proofs.Keeps.{CausesIn, KeepsAll}

-- ---- the answer to bytes

pub claims : (size : ℕ) (bytes text : List ℕ) (report : ReportView) (status : ℕ) → Reports size bytes report → text ≡ report.text → status ≡ report_status report.all_won → OnceGives size bytes text status
claims size bytes text report status r is said = inl (record {
  tickets = r.tickets;
  claims = r.claims;
  read = r.read;
  are = r.are;
  lines = is ∙ r.text_is;
  said = subst (λ (b : Bool). status ≡ report_status b) r.won_is said;
})

pub refuses : (size : ℕ) (bytes text : List ℕ) (number : ℕ) → IsBadLine bytes number → text ≡ (refused_input number).text → OnceGives size bytes text 5
refuses size bytes text number bad line = inr (record { number = number; bad = bad; line = line; said = refl })

-- ---- the promises

report_low : (good : Bool) → report_status good ≤ 1
report_low true = omega arith
report_low false = omega arith

gives : (size : ℕ) (bytes text : List ℕ) (status : ℕ) → OnceGives size bytes text status → IsAnswer status
gives size bytes text status (inl c) = inl (subst (λ (n : ℕ). n ≤ 1) (sym c.said) (report_low (all_won c.claims)))
gives size bytes text status (inr r) = inr r.said

decides : (size : ℕ) → Decides (once_answering size)
decides size = record { gives = gives size; refuses = λ text status said. inr said.1 }

of_reply : (size : ℕ) (before now : Io) (text : List ℕ) (status : ℕ) (r : Replied (once_answering size) before now text status) → OnceGives size r.bytes text status → status ≤ 1
    → Appends before.written now.written text → ClaimedInput size before now status
of_reply size before now text status r (inl c) low reported = record { bytes = r.bytes; text = text; taken = r.taken; ended = r.ended; claims = c; reported = reported }
of_reply size before now text status r (inr b) low reported = absurd (omega (arith, b.said, low))

claimed_by : (size : ℕ) (before now : Io) (text : List ℕ) (status : ℕ) → IsReply (once_answering size) before now text status → status ≤ 1 → Appends before.written now.written text
    → ClaimedInput size before now status
claimed_by size before now text status (inl r) low reported = of_reply size before now text status r r.gives low reported
claimed_by size before now text status (inr r) low reported = absurd (omega (arith, r.gives.1, low))

claimed : (size : ℕ) (before now : Io) (status : ℕ) → Answered (once_answering size) before now status → status ≤ 1 → ClaimedInput size before now status
claimed size before now status a low = claimed_by size before now a.text status a.reply low a.reported

causes : (size : ℕ) (before now : Outside) (status : ℕ) → CameInput (once_answering size) before now status → CausesIn (once_course size) before now status
causes size before now status came =
    let c = (keeps_input (once_answering size) (decides size)).causes before now status came in
    record {
      known = c.known;
      done = λ low. claimed size (io_in before) (io_in now) status (c.done low) low;
      words = c.words;
      read = c.read;
      write = c.write;
      input = c.input;
      memory = c.memory;
    }

says : (size : ℕ) (before now : Outside) (status : ℕ) → CameInput (once_answering size) before now status → status ≤ 1 → ClaimedInput size (io_in before) (io_in now) status
says size before now status came low =
    claimed size (io_in before) (io_in now) status ((keeps_input (once_answering size) (decides size)).says before now status came low) low

pub keeps_all : (size : ℕ) → KeepsAll (once_course size)
keeps_all size = record {
  keeps = record {
    causes = causes size;
    answers = (keeps_input (once_answering size) (decides size)).answers;
    through = λ before now status came low. (says size before now status came low).ended;
    says = says size;
  };
  wanting = (keeps_whole (once_answering size) (decides size)).wanting;
}
