-- The deterministic texts of a PASSporT of each type: they can be written, have the members that are read again, and are short.
use Rattle.std.proofs.Common.{◌≡◌, ◌≤◌, ◌+◌, ℕ, true, false, List, [], ◌∷◌, length, Some, codes, refl, arith}
use Rattle.serde_json.specs.Data.{Data, Members, array, item, member, no_items, no_members, number, string, unsigned, items_depth}
use Rattle.serde_json.specs.Find.{get}
use Rattle.serde_json.specs.Written.{items_have_float}
use Rattle.json.specs.Print.{quoted}
use Rattle.text_grammar.specs.Moment.{last_second}
use Rattle.tn_values.specs.Number.{is_number}
use Rattle.passport_json.specs.Deterministic.{IsWritable}
use Rattle.passport_json.specs.Passport.{Header, Payload, number_object, text_where, texts, with_tn}
use Rattle.passport_claims.specs.HasKind.{HasKind}
use Rattle.passport_claims.specs.Kind.{attest_text, ppt_of}
use Rattle.passport_claims.specs.Members.{HasText}
use Rattle.passport_claims.specs.Passport.{ClaimsView, IsDiverted, IsKind, members_of}
use Rattle.passport_claims.specs.Signed.{header_of, payload_of}
use Rattle.passport_claims.specs.declared.kind.Kind.{Kind}
use Rattle.passport_claims.specs.declared.kind.Kind.TheVariants as kinds
use Rattle.passport_claims.proofs.MemberSizes.{calling_le, dest_le, header_end, iat_le, level_le, member_le, name_le, quoted_le, typed_end}

-- ---- they can be written

no_float : (numbers : List (List ℕ)) → items_have_float (texts numbers) ≡ false
no_float [] = refl
no_float (digits ∷ others) = no_float others

flat : (numbers : List (List ℕ)) → items_depth (texts numbers) ≡ 0
flat [] = refl
flat (digits ∷ others) = rw (flat others) refl

pub header_of_kind : (kind : Kind) (x5u : List ℕ) (iat : ℕ) (orig : List ℕ) (dest : List (List ℕ))
    → IsWritable (Header (members_of (record { kind = kind; x5u = x5u; iat = iat; orig = orig; dest = dest })))
header_of_kind kinds.Base x5u iat orig dest = record { no_float = refl; shallow = omega arith }
header_of_kind (kinds.Shaken level origid) x5u iat orig dest = record { no_float = refl; shallow = omega arith }
header_of_kind (kinds.Div div) x5u iat orig dest = record { no_float = refl; shallow = omega arith }

pub payload_of_kind : (kind : Kind) (x5u : List ℕ) (iat : ℕ) (orig : List ℕ) (dest : List (List ℕ))
    → IsWritable (Payload (members_of (record { kind = kind; x5u = x5u; iat = iat; orig = orig; dest = dest })))
payload_of_kind kinds.Base x5u iat orig dest = record { no_float = rw (no_float dest) refl; shallow = rw (flat dest) (omega arith) }
payload_of_kind (kinds.Shaken level origid) x5u iat orig dest = record { no_float = rw (no_float dest) refl; shallow = rw (flat dest) (omega arith) }
payload_of_kind (kinds.Div div) x5u iat orig dest = record { no_float = rw (no_float dest) refl; shallow = rw (flat dest) (omega arith) }

-- ---- they are read again

-- the members of a header and a payload
pub record HasMembers (header payload : Data) (claims : ClaimsView) : Type 0 where
  pub typ : HasText (codes "typ") (codes "passport") header
  pub alg : HasText (codes "alg") (codes "ES256") header
  pub ppt : get (codes "ppt") header ≡ text_where (ppt_of claims.kind)
  pub x5u : HasText (codes "x5u") claims.x5u header
  pub iat : get (codes "iat") payload ≡ Some (number (unsigned claims.iat))
  pub orig : get (codes "orig") payload ≡ Some (with_tn (string claims.orig))
  pub dest : get (codes "dest") payload ≡ Some (with_tn (array (texts claims.dest)))

pub has_members : (kind : Kind) (x5u : List ℕ) (iat : ℕ) (orig : List ℕ) (dest : List (List ℕ))
    → HasMembers (Header (members_of (record { kind = kind; x5u = x5u; iat = iat; orig = orig; dest = dest }))) (Payload (members_of (record { kind = kind; x5u = x5u; iat = iat; orig = orig; dest = dest })))
    (record { kind = kind; x5u = x5u; iat = iat; orig = orig; dest = dest })
has_members kinds.Base x5u iat orig dest = record { typ = refl; alg = refl; ppt = refl; x5u = refl; iat = refl; orig = refl; dest = refl }
has_members (kinds.Shaken level origid) x5u iat orig dest = record { typ = refl; alg = refl; ppt = refl; x5u = refl; iat = refl; orig = refl; dest = refl }
has_members (kinds.Div div) x5u iat orig dest = record { typ = refl; alg = refl; ppt = refl; x5u = refl; iat = refl; orig = refl; dest = refl }

pub has_kind : (kind : Kind) (x5u : List ℕ) (iat : ℕ) (orig : List ℕ) (dest : List (List ℕ)) → IsKind kind → IsDiverted kind
    → HasKind (Payload (members_of (record { kind = kind; x5u = x5u; iat = iat; orig = orig; dest = dest }))) kind
has_kind kinds.Base x5u iat orig dest is ok = tt
has_kind (kinds.Shaken level origid) x5u iat orig dest is ok = (refl, refl, is)
has_kind (kinds.Div div) x5u iat orig dest is ok = record { holder = with_tn (string div); member = refl; tn = refl; ok = ok }

-- ---- they are short

pub header_by : (kind : Kind) (x5u : List ℕ) (iat : ℕ) (orig : List ℕ) (dest : List (List ℕ)) → length (quoted x5u) ≤ 2 + length x5u
    → length (header_of (record { kind = kind; x5u = x5u; iat = iat; orig = orig; dest = dest })) ≤ 220 + length x5u
header_by kinds.Base x5u iat orig dest h =
    omega (
      arith,
      member_le false (codes "alg") (string (codes "ES256")) (member (codes "typ") (string (codes "passport")) (member (codes "x5u") (string x5u) no_members)) 20 32 (97 + length x5u)
          (name_le (codes "alg") 3 refl) (name_le (codes "ES256") 5 refl) (header_end x5u h),
    )
header_by (kinds.Shaken level origid) x5u iat orig dest h =
    omega (
      arith,
      member_le false (codes "alg") (string (codes "ES256"))
          (member (codes "ppt") (string (codes "shaken")) (member (codes "typ") (string (codes "passport")) (member (codes "x5u") (string x5u) no_members))) 20 32 (157 + length x5u)
          (name_le (codes "alg") 3 refl) (name_le (codes "ES256") 5 refl) (typed_end (codes "shaken") x5u (let e : length (codes "shaken") ≡ 6 = refl in omega (arith, e)) h),
    )
header_by (kinds.Div div) x5u iat orig dest h =
    omega (
      arith,
      member_le false (codes "alg") (string (codes "ES256"))
          (member (codes "ppt") (string (codes "div")) (member (codes "typ") (string (codes "passport")) (member (codes "x5u") (string x5u) no_members))) 20 32 (157 + length x5u)
          (name_le (codes "alg") 3 refl) (name_le (codes "ES256") 5 refl) (typed_end (codes "div") x5u (let e : length (codes "div") ≡ 3 = refl in omega (arith, e)) h),
    )

-- what must be so of its parts
pub record ArePayload (iat : ℕ) (orig called : List ℕ) : Type 0 where
  pub within : iat ≤ last_second
  pub calling : is_number orig ≡ true
  pub one : is_number called ≡ true

abbrev last_members : List ℕ → Members
last_members origid = member (codes "origid") (string origid) no_members

abbrev timed : ℕ → List ℕ → Members → Members
timed iat orig others = member (codes "iat") (number (unsigned iat)) (member (codes "orig") (number_object orig) others)

pub payload_by : (kind : Kind) (payload : Data) (x5u : List ℕ) (iat : ℕ) (orig called : List ℕ) → HasKind payload kind → ArePayload iat orig called
    → length (payload_of (record { kind = kind; x5u = x5u; iat = iat; orig = orig; dest = called ∷ [] })) ≤ 700
payload_by kinds.Base payload x5u iat orig called k p =
    omega (arith, dest_le false called (timed iat orig no_members) 173 p.one (iat_le iat orig no_members 1 p.within p.calling (omega arith)))
payload_by (kinds.Shaken level origid) payload x5u iat orig called k p =
    let size : length origid ≡ 36 = k.2.size in
    let last = member_le true (codes "origid") (string origid) no_members 38 218 1 (name_le (codes "origid") 6 refl) (quoted_le origid 36 (omega (arith, size))) (omega arith) in
    let timed_le = iat_le iat orig (last_members origid) 259 p.within p.calling (omega (arith, last)) in
    let called_part = dest_le true called (timed iat orig (last_members origid)) 431 p.one (omega (arith, timed_le)) in
    omega (
      arith,
      member_le false (codes "attest") (string (attest_text level)) (member (codes "dest") (with_tn (array (item (string called) no_items))) (timed iat orig (last_members origid))) 38 8 571
          (name_le (codes "attest") 6 refl) (level_le level) (omega (arith, called_part)),
    )
payload_by (kinds.Div div) payload x5u iat orig called k p =
    let timed_le = iat_le iat orig no_members 1 p.within p.calling (omega arith) in
    let diverted = member_le true (codes "div") (number_object div) (timed iat orig no_members) 20 110 173 (name_le (codes "div") 3 refl) (calling_le div k.ok) (omega (arith, timed_le)) in
    omega (arith, dest_le false called (member (codes "div") (number_object div) (timed iat orig no_members)) 305 p.one (omega (arith, diverted)))
