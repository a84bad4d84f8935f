-- What `show` answers to bytes is what its words say, and what it promises follows.
use Rattle.std.proofs.Common.{◌≡◌, ℕ, ◌⊎◌, inl, inr, List, Result, Ok, Err, refl, sym, ◌∙◌, arith}
use Rattle.x509_profile.specs.Chain.{Chain, RefusedCertificate, certificates_in}
use Rattle.x509_profile.specs.View.{CertView}
use Rattle.stir_cmd.specs.Answer.{refused_input, shown}
use Rattle.chain_lines.specs.Show.{show}
use Rattle.stir_cmd.specs.Showing.{IsNoChain, ShowGives, Shows, show_answering, show_course}
use Rattle.stir_cmd.proofs.InputLaws.{Decides, IsAnswer, keeps_whole}
use Rattle.stir_cmd.proofs.Keeps.{KeepsAll}

-- certificates are read of the bytes that are their chain
abbrev pub ReadsChain : Type 0
ReadsChain = (bytes : List ℕ) (certificates : List CertView) → Chain bytes certificates → certificates_in bytes ≡ Ok certificates

no_chain : ReadsChain → (bytes : List ℕ) (refused : RefusedCertificate) → certificates_in bytes ≡ Err refused → IsNoChain bytes
no_chain law bytes refused e certificates chain =
    let k : ◌≡◌ {A = Result (List CertView) RefusedCertificate} (Ok certificates) (Err refused) = sym (law bytes certificates chain) ∙ e in absurd cc

pub shows : (bytes text : List ℕ) (certificates : List CertView) → Chain bytes certificates → certificates_in bytes ≡ Ok certificates → text ≡ show certificates → ShowGives bytes text 0
unfolding shown
shows bytes text certificates chain read lines = record {
  says = inl (refl, record { certificates = certificates; chain = chain; lines = lines });
  text_is = rw read lines;
  status_is = rw read refl;
}

pub refuses : ReadsChain → (bytes text : List ℕ) (refused : RefusedCertificate) → certificates_in bytes ≡ Err refused → text ≡ (refused_input refused.place).text → ShowGives bytes text 5
unfolding shown
refuses law bytes text refused read line = record { says = inr (refl, no_chain law bytes refused read); text_is = rw read line; status_is = rw read refl }

-- ---- the promises

gives : (bytes text : List ℕ) (status : ℕ) → ShowGives bytes text status → IsAnswer status
gives bytes text status g = by_says g.says
  where
    by_says : ((status ≡ 0) × Shows bytes text) ⊎ ((status ≡ 5) × IsNoChain bytes) → IsAnswer status
    by_says (inl said) = inl (omega (arith, said.0))
    by_says (inr said) = inr said.0

decides : Decides show_answering
decides = record { gives = gives; refuses = λ text status said. inr said.1 }

pub keeps_all : KeepsAll show_course
keeps_all = keeps_whole show_answering decides
