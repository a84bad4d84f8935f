-- What a call says of a message that is to be signed by the key of the chain that a handle holds, and what it leaves.
use Rattle.std.specs.Prelude.{◌≡◌, ◌≤◌, ◌⊎◌, ℕ, List, Option, Some, None}
use Rattle.open_calls.specs.Order.{Given}
use Rattle.open_calls.specs.Signing.{IsSignedBy, IsToSign, IsUnsignedFor, IsUnsignedWith}
use Rattle.stir_c.specs.Holding.{HeldChainView}
use Rattle.stir_c.specs.Keys.{ByKey, key_in}
use Rattle.stir_c.specs.Saying.{IfOpen}
use Rattle.stir_c.specs.Signing.{HasFault, HasFaultWith, HasNoRoomForMessage, IsWithheld, SignedInto, ToldSigned}
use Rattle.stir_c.specs.Signing.{ToldUnsigned}
use Rattle.stir_c.specs.declared.said.Said.{Said}

-- Without a signature. The handle holds this before the call, and this after it.
pub record TellsToSign (order : Given) (message : List ℕ) (held left : Option HeldChainView)
    (said : Said) : Type 0 where
  pub kinds : (said.kind ≤ 3) ⊎ (said.kind ≡ 5)
  pub stays : left ≡ held
  pub told : IfOpen held (λ chain. ToldUnsigned (IsUnsignedFor (key_in chain) order message None) said) said
  pub digest : said.kind ≡ 0 → ByKey held (λ key. IsToSign key order message said.ticket)
  pub withheld : said.kind ≡ 1 → ByKey held (IsWithheld order message None said.rule)
  pub faulty : said.kind ≡ 2 → ByKey held (HasFault order said.input)
  pub closed : said.kind ≡ 5 → held ≡ None

-- With this signature. The room has this before the call, and this after it.
pub record TellsSigned (order : Given) (message signature : List ℕ) (held left : Option HeldChainView)
    (before now : List ℕ) (said : Said) : Type 0 where
  pub kinds : said.kind ≤ 5
  pub stays : left ≡ held
  pub told : IfOpen held (λ chain. ToldSigned (IsSignedBy (key_in chain) order message (Some signature))
      (IsUnsignedWith (key_in chain) order message signature) before now said) said
  pub signed : said.kind ≡ 0 → ByKey held (SignedInto order message signature before now said)
  pub withheld : said.kind ≡ 1 → ByKey held (IsWithheld order message (Some signature) said.rule)
  pub faulty : said.kind ≡ 2 → ByKey held (HasFaultWith order signature said.input)
  pub no_room : said.kind ≡ 4 → ByKey held (HasNoRoomForMessage order message signature before said)
  pub closed : said.kind ≡ 5 → held ≡ None
  pub as_was : 1 ≤ said.kind → now ≡ before
