-- The laws of a certificate.
use Rattle.x509_profile.proofs.CertLaws.{cert_again, cert_found, certificate_tells}
use Rattle.x509_profile.proofs.laws.certificate_law.Goals as goal

pub returns-clause-again : goal.returns-clause-again
returns-clause-again c = cert_again

pub returns-clause-found : goal.returns-clause-found
returns-clause-found c = cert_found

pub returns-clause-refused : goal.returns-clause-refused
returns-clause-refused c = λ bytes fault typed. certificate_tells bytes typed fault
