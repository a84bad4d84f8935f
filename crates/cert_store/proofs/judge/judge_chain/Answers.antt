-- The rules' own words are laws of what they say.
use Rattle.std.proofs.Common.{arith}
use Rattle.cert_store.proofs.JudgedWords.{authority_is, dates_are, keys_are, ok_so, path_is, profile_is, quiet_is, signatures_are, unasked_is}
use Rattle.cert_store.proofs.QuestionLaws.{questions_are}
use Rattle.cert_store.proofs.judge.judge_chain.Goals as goal

pub returns : goal.returns
returns g c =
    let exact = c.judge_bytes.ensures.exact in
    let below = c.below_law.ensures in
    record {
      exact = exact;
      profile = ok_so c.judge_bytes.result _ _ (λ judged j. profile_is below _ _ _ _ judged (λ i. omega (arith, c.type_inv.bytes i)) j.right) exact;
      path = ok_so c.judge_bytes.result _ _ (λ judged j. path_is below _ _ _ _ judged j.right) exact;
      dates = ok_so c.judge_bytes.result _ _ (λ judged j. dates_are below _ _ _ _ judged j.right) exact;
      authority = ok_so c.judge_bytes.result _ _ (λ judged j. authority_is below _ _ _ _ judged j.right) exact;
      signatures = ok_so c.judge_bytes.result _ _ (λ judged j. signatures_are below _ _ _ _ judged j.right) exact;
      quiet = ok_so c.judge_bytes.result _ _ (λ judged j. quiet_is _ _ _ judged j) exact;
      unasked = ok_so c.judge_bytes.result _ _ (λ judged j. unasked_is _ _ _ _ judged j.right) exact;
      keys = ok_so c.judge_bytes.result _ _ (λ judged j. keys_are below _ _ _ _ judged j.right) exact;
      questions = ok_so c.judge_bytes.result _ _ (λ judged j. questions_are below _ _ _ _ judged j.right) exact;
      asks = c.judge_bytes.ensures.asks;
      faults = c.judge_bytes.ensures.faults;
      same_says = c.judge_bytes.ensures.same_says;
      same_signs = c.judge_bytes.ensures.same_signs;
    }
