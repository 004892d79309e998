-- Whether the object of a LocateRequest is here.
use Rattle.std.proofs.Common.{◌∙◌, ◌≡◌, refl, sym, subst, ℕ, Bool, false, List}
use Rattle.giop_frames.specs.declared.message.Locate.{Locate}
use Rattle.giop_frames.specs.declared.message.Target.TheVariants as targets
use Rattle.ior_refs.specs.Key.{SpellsKey}
use Rattle.ior_refs.specs.Laws.{SameOctetsSameKey}
use Rattle.ior_refs.specs.declared.key.ObjectKey.{ObjectKey}
use Rattle.ots_sessions.specs.Sessions.{IsLocated, located}

same_octets : (a b : List ℕ) → targets.Key a ≡ targets.Key b → a ≡ b
same_octets a b h = cc (h)

module _ {S : Type 0} (finds : S → ObjectKey → Bool → S → Type 0) (before : S) (l : Locate) where
  pub located_key : SameOctetsSameKey → (octets : List ℕ) (key : ObjectKey) (there : Bool) (after : S) → l.target ≡ targets.Key octets → SpellsKey octets key
      → finds before key there after → IsLocated finds before l (located l.id there) after
  located_key one octets key there after target spelled found = record {
    here = there;
    reply_is = refl;
    own = λ so. (key, record { octets = octets; is_key = target; spelled = spelled }, subst (λ b. finds before key b after) so found);
    known = λ k is_for.
        let same = same_octets is_for.octets octets (sym is_for.is_key ∙ target) in
        let spells = subst (λ o. SpellsKey o k) same is_for.spelled in
        let key_is = one key k spelled.numbers spells.numbers (sym spelled.octets ∙ spells.octets) in
        subst (λ x. finds before x there after) key_is found;
    foreign = λ none. absurd (none key (record { octets = octets; is_key = target; spelled = spelled }));
  }

  pub located_no_key : (octets : List ℕ) → l.target ≡ targets.Key octets → ((key : ObjectKey) → ¬ SpellsKey octets key)
      → IsLocated finds before l (located l.id false) before
  located_no_key octets target none = record {
    here = false;
    reply_is = refl;
    own = λ so. absurd (cc (so));
    known = λ k is_for.
        let same = same_octets is_for.octets octets (sym is_for.is_key ∙ target) in
        absurd (none k (subst (λ o. SpellsKey o k) same is_for.spelled));
    foreign = λ _. refl;
  }

  pub located_profile : l.target ≡ targets.Profile → IsLocated finds before l (located l.id false) before
  located_profile target = record {
    here = false;
    reply_is = refl;
    own = λ so. absurd (cc (so));
    known = λ k is_for. absurd (cc (sym is_for.is_key ∙ target));
    foreign = λ _. refl;
  }

  pub located_reference : l.target ≡ targets.Reference → IsLocated finds before l (located l.id false) before
  located_reference target = record {
    here = false;
    reply_is = refl;
    own = λ so. absurd (cc (so));
    known = λ k is_for. absurd (cc (sym is_for.is_key ∙ target));
    foreign = λ _. refl;
  }
