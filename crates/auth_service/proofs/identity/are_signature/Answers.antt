-- It has 64 bytes.
use Rattle.auth_service.proofs.identity.are_signature.Goals as goal

pub returns : goal.returns
returns c = record { bytes = c.fits-signature; size = c.told-signature }
