-- The laws of the cache.
use Rattle.cert_store.proofs.CacheLaws.{put_found, touched_same}
use Rattle.cert_store.proofs.laws.cache_law.Goals as goal

pub returns-clause-same : goal.returns-clause-same
returns-clause-same c = touched_same

pub returns-clause-found : goal.returns-clause-found
returns-clause-found c = put_found
