-- An open call that is to go on, as it is handed in, and what the gateway goes by.
use Rattle.std.specs.Prelude.{◌≡◌, ℕ, List, [], Option, None, IsTrue}
use Rattle.std.specs.Option.{option_copied}
use Rattle.auth_service.specs.Order.{HolderView}
use Rattle.cert_store.specs.Rules.{QuestionView, Says}
use Rattle.open_calls.specs.Confirmed.{confirmed, says_by}
use Rattle.open_calls.specs.OpenCalls.{CallView, call_in}
use Rattle.open_calls.specs.OpenChains.{ChainView, states_of}
use Rattle.open_calls.specs.OwnQuestions.{own_asked}
use Rattle.open_calls.specs.Worlds.{WorldView}
use Rattle.open_calls.specs.Key.{IsHolderOf, KeyView}
use Rattle.retarget.specs.Hop.{HopView, is_hop}
use Rattle.tn_values.specs.Local.{LocalView}
use Rattle.verify_rules.specs.Call.{Reading, in_call_order}
use Rattle.verify_rules.specs.Rules.{early_rules, first}
use Rattle.verify_rules.specs.States.{State}
use Rattle.x509_profile.specs.View.{CertView}
use Rattle.open_calls.specs.declared.retargeting.Retargeting.{Retargeting}
use Rattle.open_calls.specs.declared.target.Target.{Target}

-- the request URI of the message that goes on, the first certificate of the key's chain, if there is any, the URI of
-- that chain, and the second of signing in Unix time
pub record TargetView : Type 0 where
  pub uri : List ℕ
  pub leaf : Option CertView
  pub x5u : List ℕ
  pub iat : ℕ

abbrev pub target_of : Target → TargetView
target_of target =
    record { uri = target.uri.now; leaf = option_copied target.leaf; x5u = target.x5u.now; iat = target.iat }

-- a call, the world under which it was opened, what was handed in for its PASSporTs, which of its own questions were
-- confirmed, and its target
pub record Given : Type 0 where
  pub world : WorldView
  pub call : CallView
  pub chains : List (Option ChainView)
  pub good : List ℕ
  pub target : TargetView

abbrev pub given_of : Retargeting → Given
given_of retargeting = record {
  world = retargeting.world.now;
  call = retargeting.call.now;
  chains = retargeting.chains.now;
  good = retargeting.good.now;
  target = target_of retargeting.target;
}

-- ---- by whom and to where

-- by the first certificate, under the code table of the world and the local numbering of the call
abbrev pub key_in : Given → KeyView
key_in given = record { leaf = given.target.leaf; table = given.world.table; local = given.call.settings.local }

-- who asks for the signature knows the key, so it has no name
abbrev pub hop_by : TargetView → LocalView → HopView
hop_by target local = record { target = target.uri; key = []; x5u = target.x5u; iat = target.iat; local = local }

abbrev pub hop_in : Given → HopView
hop_in given = hop_by given.target given.call.settings.local

-- who says yes to those of the call's own questions that were confirmed, and to nothing else
abbrev pub confirmed_in : Given → List QuestionView
confirmed_in given = confirmed (own_asked given.world.table (states_of given.chains) (call_in given.call)) given.good

-- ---- what the gateway goes by

-- the bytes of the message, the moment at which it came, its PASSporTs in the order in which the call went, what is
-- known of their chains, who confirms their signatures, where it goes on, and who signs
pub record Going : Type 0 where
  pub bytes : List ℕ
  pub moment : ℕ
  pub readings : List Reading
  pub states : List State
  pub says : Says
  pub hop : HopView
  pub holder : HolderView

abbrev pub going_by : List ℕ → ℕ → List Reading → List State → List QuestionView → HopView → HolderView → Going
going_by bytes moment readings states good hop holder = record {
  bytes = bytes;
  moment = moment;
  readings = readings;
  states = states;
  says = says_by good;
  hop = hop;
  holder = holder;
}

-- The inputs are such that the gateway can go by them: the certificate has an authority list (RFC 8226, section 9), and
-- the URI and the second are of their forms.
pub record IsHopOf (given : Given) (hop : HopView) (holder : HolderView) : Type 0 where
  pub hop_is : hop ≡ hop_in given
  pub valid : IsTrue (is_hop hop)
  pub holder_is : IsHolderOf (key_in given) holder

-- What is handed in comes to this: none of the rules of the call is broken, and the rest is taken as it is.
pub record IsGoing (given : Given) (going : Going) : Type 0 where
  pub early : first early_rules (call_in given.call) ≡ None
  pub bytes_are : going.bytes ≡ given.call.message
  pub moment_is : going.moment ≡ given.call.moment
  pub readings_are : going.readings ≡ in_call_order (call_in given.call)
  pub states_are : going.states ≡ states_of given.chains
  pub says_is : going.says ≡ says_by (confirmed_in given)
  pub by : IsHopOf given going.hop going.holder
