-- Why nothing goes on, in the words of the call and the hop.
use Rattle.std.proofs.Common.{◌≡◌, ℕ, ◌≤◌, ◌<◌, true, List, length, Option, Some, None, Result, Ok, Err, refl, sym, ◌∙◌, ap, subst, arith, ◌⊎◌, inl, inr}
use Rattle.sip_message.specs.Accessors.{calling_number, is_invite}
use Rattle.sip_message.specs.Address.{uri_number}
use Rattle.sip_message.specs.Added.{with_line}
use Rattle.sip_message.specs.Head.{Head}
use Rattle.sip_message.specs.HeadAlphabet.{is_target}
use Rattle.sip_message.specs.Message.{MessageView}
use Rattle.sip_message.specs.Reading.{read}
use Rattle.sip_message.specs.Target.{targeted, to_uri, with_uri}
use Rattle.sip_message.specs.declared.fault.FormFault.{FormFault}
use Rattle.delegation.specs.Coverage.{Covers}
use Rattle.passport_json.specs.Spelled.{IsSignature}
use Rattle.passport_claims.specs.Passport.{ClaimsView}
use Rattle.passport_claims.specs.declared.kind.Kind.TheVariants as kinds
use Rattle.verify_rules.specs.Call.{Reading}
use Rattle.verify_rules.specs.LateWords.{CoversKind}
use Rattle.auth_service.specs.Causes.{IsMisformed, IsOrdered, misformed, no_invite, no_message, other_date, too_long, unauthorized}
use Rattle.auth_service.specs.Causes.{IsUnauthorized as SignerUnauthorized, IsUnnumbered, IsUnsigned as SignerUnsigned}
use Rattle.auth_service.specs.Field.{field_name, value_of}
use Rattle.auth_service.specs.Order.{HolderView}
use Rattle.auth_service.specs.Signed.{claims_by}
use Rattle.auth_service.specs.declared.fault.SignFault.{SignFault}
use Rattle.auth_service.specs.declared.fault.SignFault.TheVariants as signing
use Rattle.retarget.specs.Answer.{hop_fault}
use Rattle.retarget.specs.Below.{Below}
use Rattle.retarget.specs.Causes.{HasRoom, IsCaused, IsLong, IsToSign, IsTooLong, IsUnauthorized, IsWithheld, full, long, looped, nowhere}
use Rattle.retarget.specs.Causes.{unauthorized as lacking}
use Rattle.retarget.specs.Hop.{HopView, diversion}
use Rattle.retarget.specs.Onward.{GoesOnTo, HasBeenAt, links_of}
use Rattle.retarget.specs.Written.{CannotSign, IsRefusedBy, Why, no_memory, refused}
use Rattle.retarget.specs.Written.{too_long as no_room, withheld as held_back}
use Rattle.retarget.specs.declared.fault.HopFault.{HopFault}
use Rattle.retarget.proofs.WrittenLaws.{longer, moved_is, short_is, too_long_is}

abbrev Signs : Type 0
Signs = List ℕ → List ℕ → Option (List ℕ)

-- ---- what is known of a call that goes on

-- its message is an INVITE that has a calling number, and it goes on to this number
pub record Known (bytes : List ℕ) (message : MessageView) (earlier : List ℕ) (readings : List Reading) (hop : HopView) : Type 0 where
  pub is_read : read bytes ≡ Ok message
  pub invite : is_invite message ≡ true
  pub orig : List ℕ
  pub calling : calling_number message hop.local ≡ Some orig
  pub number : List ℕ
  pub onward : GoesOnTo message earlier readings hop number

-- the same, with the other request URI, as these bytes
record Moved (bytes : List ℕ) (message : MessageView) (hop : HopView) (moved : List ℕ) : Type 0 where
  is : targeted bytes hop.target ≡ Ok moved
  is_read : read moved ≡ Ok (to_uri message hop.target)

-- what is read of them is that message
one_message : Below → (bytes : List ℕ) (message : MessageView) (hop : HopView) (moved : List ℕ) (other : MessageView) → Moved bytes message hop moved → Head moved other → other ≡ to_uri message hop.target
one_message laws bytes message hop moved other m h =
    let same : ◌≡◌ {A = Result MessageView FormFault} (Ok other) (Ok (to_uri message hop.target)) = sym ((laws.head moved other).1 h) ∙ m.is_read in cc

-- ---- what is signed

to_sign : Below → (bytes : List ℕ) (message : MessageView) (earlier : List ℕ) (readings : List Reading) (hop : HopView) (moved : List ℕ) (other : MessageView) (claims : ClaimsView)
    → (k : Known bytes message earlier readings hop) → Moved bytes message hop moved → IsOrdered moved (diversion hop earlier) other claims → IsToSign message earlier readings hop claims
to_sign laws bytes message earlier readings hop moved other claims k m o =
    let e = one_message laws bytes message hop moved other m o.invite.head in
    let called : uri_number other.uri hop.local ≡ Some o.dest = o.called in
    let same : ◌≡◌ {A = Option (List ℕ)} (Some o.dest) (Some k.number) = sym called ∙ ap (λ (x : MessageView). uri_number x.uri hop.local) e ∙ k.onward.leads.gives in
    let dest : o.dest ≡ k.number = cc in
    record {
      number = k.number;
      onward = k.onward;
      orig = o.orig;
      calling = sym (ap (λ (x : MessageView). calling_number x hop.local) e) ∙ o.calling;
      says = o.says ∙ ap (claims_by (diversion hop earlier) o.orig) dest;
    }

-- as the signer orders it
ordered : Below → (bytes : List ℕ) (message : MessageView) (earlier : List ℕ) (readings : List Reading) (hop : HopView) (moved : List ℕ) (claims : ClaimsView)
    → Known bytes message earlier readings hop → Moved bytes message hop moved → IsToSign message earlier readings hop claims
    → IsOrdered moved (diversion hop earlier) (to_uri message hop.target) claims
ordered laws bytes message earlier readings hop moved claims k m t = record {
  invite = record {
    head = (laws.head moved (to_uri message hop.target)).0 m.is_read;
    method = k.invite;
    dated = λ e. absurd cc;
  };
  orig = t.orig;
  calling = t.calling;
  dest = t.number;
  called = t.onward.leads.gives;
  says = t.says;
}

-- ---- each cause

long_with : (bytes earlier moved : List ℕ) (hop : HopView) (claims : ClaimsView) → moved ≡ with_uri bytes hop.target
    → ((signature : List ℕ) → IsSignature signature → 65535 < length (with_line moved field_name (value_of (diversion hop earlier).shape claims signature)))
    → (signature : List ℕ) → IsSignature signature → IsTooLong bytes earlier hop claims signature
long_with bytes earlier moved hop claims e f signature is =
    subst (λ (x : List ℕ). 65535 < length (with_line x field_name (value_of (diversion hop earlier).shape claims signature))) e (f signature is)

short_with : (bytes earlier moved : List ℕ) (hop : HopView) (claims : ClaimsView) → moved ≡ with_uri bytes hop.target
    → ((signature : List ℕ) → IsSignature signature → 65535 < length (with_line moved field_name (value_of (diversion hop earlier).shape claims signature)) → ⊥)
    → HasRoom bytes earlier hop claims
short_with bytes earlier moved hop claims e f signature is h =
    f signature is (subst (λ (x : List ℕ). 65535 < length (with_line x field_name (value_of (diversion hop earlier).shape claims signature))) (sym e) h)

misformed_long : Below → (bytes : List ℕ) (message : MessageView) (earlier : List ℕ) (readings : List Reading) (hop : HopView) (moved : List ℕ) → Known bytes message earlier readings hop
    → Moved bytes message hop moved → IsMisformed moved (diversion hop earlier) → IsLong bytes message earlier readings hop
misformed_long laws bytes message earlier readings hop moved k m (no_message none) =
    absurd (none (to_uri message hop.target) ((laws.head moved (to_uri message hop.target)).0 m.is_read))
misformed_long laws bytes message earlier readings hop moved k m (no_invite other h none) =
    let e = one_message laws bytes message hop moved other m h in absurd (none (ap is_invite e ∙ k.invite))
misformed_long laws bytes message earlier readings hop moved k m (other_date other h invite compact none) = absurd cc
misformed_long laws bytes message earlier readings hop moved k m (too_long other claims o f) = record {
  claims = claims;
  to_sign = to_sign laws bytes message earlier readings hop moved other claims k m o;
  long = long_with bytes earlier moved hop claims (moved_is bytes hop.target moved m.is) f;
}

numbered : Below → (bytes : List ℕ) (message : MessageView) (earlier : List ℕ) (readings : List Reading) (hop : HopView) (moved : List ℕ) → Known bytes message earlier readings hop
    → Moved bytes message hop moved → IsUnnumbered moved (diversion hop earlier) → ⊥
numbered laws bytes message earlier readings hop moved k m u = of u.missing where
  of : ◌≡◌ {A = Option (List ℕ)} (calling_number u.message hop.local) None ⊎ ◌≡◌ {A = Option (List ℕ)} (uri_number u.message.uri hop.local) None → ⊥
  of (inl none) =
      let e = one_message laws bytes message hop moved u.message m u.invite.head in
      let both : ◌≡◌ {A = Option (List ℕ)} (Some k.orig) None = sym k.calling ∙ sym (ap (λ (x : MessageView). calling_number x hop.local) e) ∙ none in absurd cc
  of (inr none) =
      let e = one_message laws bytes message hop moved u.message m u.invite.head in
      let both : ◌≡◌ {A = Option (List ℕ)} (Some k.number) None = sym k.onward.leads.gives ∙ sym (ap (λ (x : MessageView). uri_number x.uri hop.local) e) ∙ none in absurd cc

-- a PASSporT of a diversion has no attestation, so nothing but its diverted number may be covered
covers_earlier : (holder : HolderView) (orig earlier : List ℕ) → CoversKind holder.table holder.entries orig (kinds.Div earlier) → Covers holder.entries holder.table earlier
covers_earlier holder orig earlier (inl covers) = covers
covers_earlier holder orig earlier (inr allowed) = absurd allowed.0

refused_by : Below → (bytes : List ℕ) (message : MessageView) (earlier : List ℕ) (readings : List Reading) (hop : HopView) (holder : HolderView) (signs : Signs) (one : SignFault)
    → Known bytes message earlier readings hop → IsRefusedBy bytes earlier hop holder signs one → IsCaused bytes message earlier readings hop holder signs (hop_fault one)
refused_by laws bytes message earlier readings hop holder signs signing.Form k r =
    misformed_long laws bytes message earlier readings hop r.moved k (record { is = r.is; is_read = r.same message k.is_read }) r.cause
refused_by laws bytes message earlier readings hop holder signs signing.NoNumber k r =
    absurd (numbered laws bytes message earlier readings hop r.moved k (record { is = r.is; is_read = r.same message k.is_read }) r.cause)
refused_by laws bytes message earlier readings hop holder signs signing.Authority k r =
    let u : SignerUnauthorized r.moved (diversion hop earlier) (Some holder) = r.cause in
    let t = to_sign laws bytes message earlier readings hop r.moved u.message u.claims k (record { is = r.is; is_read = r.same message k.is_read }) u.ordered in
    let given = u.given in
    let same : holder ≡ u.one = cc in
    record {
      claims = u.claims;
      to_sign = t;
      room = short_with bytes earlier r.moved hop u.claims (moved_is bytes hop.target r.moved r.is) u.room;
      lacks = λ c. u.lacks (subst (λ (h : HolderView). CoversKind h.table h.entries u.claims.orig u.claims.kind) same
          (subst (λ (x : ClaimsView). CoversKind holder.table holder.entries x.orig x.kind) (sym t.says) (inl c)));
    }
refused_by laws bytes message earlier readings hop holder signs (signing.NoSignature digest) k r =
    let u : SignerUnsigned r.moved (diversion hop earlier) (Some holder) signs digest = r.cause in
    let t = to_sign laws bytes message earlier readings hop r.moved u.message u.claims k (record { is = r.is; is_read = r.same message k.is_read }) u.ordered in
    record {
      claims = u.claims;
      to_sign = t;
      room = short_with bytes earlier r.moved hop u.claims (moved_is bytes hop.target r.moved r.is) u.room;
      covers = covers_earlier holder t.orig earlier (subst (λ (x : ClaimsView). CoversKind holder.table holder.entries x.orig x.kind) t.says u.authority);
      carried = u.carried;
      none = u.none;
    }
refused_by laws bytes message earlier readings hop holder signs signing.Provider k r = tt
refused_by laws bytes message earlier readings hop holder signs signing.Memory k r = tt

pub caused : Below → (bytes : List ℕ) (message : MessageView) (earlier : List ℕ) (readings : List Reading) (hop : HopView) (holder : HolderView) (signs : Signs) (fault : HopFault)
    → Known bytes message earlier readings hop → Why bytes earlier hop holder signs fault → IsCaused bytes message earlier readings hop holder signs fault
caused laws bytes message earlier readings hop holder signs fault k (no_room found e h) =
    let size = too_long_is bytes hop.target message found k.is_read h in
    let claims : ClaimsView = claims_by (diversion hop earlier) k.orig k.number in
    subst (IsCaused bytes message earlier readings hop holder signs) (sym e) (record {
      claims = claims;
      to_sign = record { number = k.number; onward = k.onward; orig = k.orig; calling = k.calling; says = refl };
      long = λ signature is.
          let more = longer (with_uri bytes hop.target) field_name (value_of (diversion hop earlier).shape claims signature) in omega (arith, size, more);
    })
caused laws bytes message earlier readings hop holder signs fault k (refused one e r) =
    subst (IsCaused bytes message earlier readings hop holder signs) (sym e) (refused_by laws bytes message earlier readings hop holder signs one k r)
caused laws bytes message earlier readings hop holder signs fault k (no_memory e) = subst (IsCaused bytes message earlier readings hop holder signs) (sym e) tt

-- ---- if nothing may be signed

-- with the other request URI the bytes are read as the message with it
again : Below → (bytes : List ℕ) (message : MessageView) (hop : HopView) → read bytes ≡ Ok message → is_target hop.target ≡ true
    → (moved : List ℕ) → targeted bytes hop.target ≡ Ok moved → read moved ≡ Ok (to_uri message hop.target)
again laws bytes message hop e uri moved h =
    let is = moved_is bytes hop.target moved h in
    let size : length (with_uri bytes hop.target) ≤ 65535 = subst (λ (x : List ℕ). length x ≤ 65535) is (short_is bytes hop.target moved h) in
    ap read is ∙ (laws.head (with_uri bytes hop.target) (to_uri message hop.target)).1 (laws.target bytes hop.target message uri size ((laws.head bytes message).0 e))

long_held : Below → (bytes : List ℕ) (message : MessageView) (earlier : List ℕ) (readings : List Reading) (hop : HopView) (holder : HolderView) → Known bytes message earlier readings hop
    → IsLong bytes message earlier readings hop → ((moved : List ℕ) → targeted bytes hop.target ≡ Ok moved → read moved ≡ Ok (to_uri message hop.target))
    → (r : Result (List ℕ) FormFault) → targeted bytes hop.target ≡ r → CannotSign bytes earlier hop holder
long_held laws bytes message earlier readings hop holder k l back (Err found) e = no_room found e
long_held laws bytes message earlier readings hop holder k l back (Ok moved) e =
    let m : Moved bytes message hop moved = record { is = e; is_read = back moved e } in
    held_back moved e (misformed (too_long (to_uri message hop.target) l.claims (ordered laws bytes message earlier readings hop moved l.claims k m l.to_sign)
    (λ signature is. subst (λ (x : List ℕ). 65535 < length (with_line x field_name (value_of (diversion hop earlier).shape l.claims signature)))
    (sym (moved_is bytes hop.target moved e)) (l.long signature is))))

lacking_held : Below → (bytes : List ℕ) (message : MessageView) (earlier : List ℕ) (readings : List Reading) (hop : HopView) (holder : HolderView) → Known bytes message earlier readings hop
    → IsUnauthorized bytes message earlier readings hop holder → ((moved : List ℕ) → targeted bytes hop.target ≡ Ok moved → read moved ≡ Ok (to_uri message hop.target))
    → (r : Result (List ℕ) FormFault) → targeted bytes hop.target ≡ r → CannotSign bytes earlier hop holder
lacking_held laws bytes message earlier readings hop holder k u back (Err found) e = no_room found e
lacking_held laws bytes message earlier readings hop holder k u back (Ok moved) e =
    let m : Moved bytes message hop moved = record { is = e; is_read = back moved e } in
    held_back moved e (unauthorized (record {
      message = to_uri message hop.target;
      claims = u.claims;
      ordered = ordered laws bytes message earlier readings hop moved u.claims k m u.to_sign;
      room = λ signature is h. u.room signature is
          (subst (λ (x : List ℕ). 65535 < length (with_line x field_name (value_of (diversion hop earlier).shape u.claims signature))) (moved_is bytes hop.target moved e) h);
      one = holder;
      given = refl;
      lacks = λ c. u.lacks (covers_earlier holder u.to_sign.orig earlier (subst (λ (x : ClaimsView). CoversKind holder.table holder.entries x.orig x.kind) u.to_sign.says c));
    }))

-- a call that goes on to a number is held back by the signer, or by its size
pub held : Below → (bytes : List ℕ) (message : MessageView) (earlier : List ℕ) (readings : List Reading) (hop : HopView) (holder : HolderView) → Known bytes message earlier readings hop
    → IsWithheld bytes message earlier readings hop holder → CannotSign bytes earlier hop holder
held laws bytes message earlier readings hop holder k (nowhere n) = absurd (n k.number k.onward.leads)
held laws bytes message earlier readings hop holder k (looped l) =
    let same : ◌≡◌ {A = Option (List ℕ)} (Some l.number) (Some k.number) = sym l.leads.gives ∙ k.onward.leads.gives in
    let e : l.number ≡ k.number = cc in
    absurd (k.onward.new (subst (λ (n : List ℕ). HasBeenAt earlier n (links_of readings)) e l.been))
held laws bytes message earlier readings hop holder k (full f) = absurd (k.onward.room f.full)
held laws bytes message earlier readings hop holder k (long l) =
    long_held laws bytes message earlier readings hop holder k l (again laws bytes message hop k.is_read k.onward.leads.uri) (targeted bytes hop.target) refl
held laws bytes message earlier readings hop holder k (lacking u) =
    lacking_held laws bytes message earlier readings hop holder k u (again laws bytes message hop k.is_read k.onward.leads.uri) (targeted bytes hop.target) refl
