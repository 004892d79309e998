-- What commit was told rightly stays so with one more line that is allowed.
use Rattle.std.proofs.Common.{◌≡◌, ℕ, true, ◌⊎◌, inl, inr, List, ◌∷◌, refl, subst}
use Rattle.ots_model.specs.declared.completion.Word.TheVariants as words
use Rattle.ots_model.specs.declared.line.Line.{Line}
use Rattle.ots_model.specs.declared.line.Line.TheVariants as lines
use Rattle.ots_model.specs.Safe as safe
use Rattle.ots_model.specs.Safe.{Stands, IsSent, IsRegistered, IsTop, IsImported, IsFamily, IsOf, IsJoined, TakesPart, DecidesAlone, IsDecidedBy, IsUpFrom}
use Rattle.ots_model.specs.SafeByLine.{IsTold, IsOpen, IsNew, IsAllowed}
use Rattle.ots_model.proofs.SafeCarried.{Carries, CarriesDeciders, is_registered, is_of, is_joined, takes_part, is_up_from, is_decided_by, family_of, of_joined, up_to_decider}
use Rattle.ots_model.proofs.SafeNewest.{plain, making, deciding, kind, Any, But, Makes, other, carries_on, deciders_on, carries_back, registrations_back, ends_back, deciders_back, makes_other}
use Rattle.ots_model.proofs.SafeAlike.{IsDueNow, alike_on, due_alike}

-- a family between that of what was told commit and its decider
told_between : (h before : List Line) (g f : List ℕ) → IsSent words.Commit g h → (d : IsDueNow g before h) → IsUpFrom h d.family f → IsUpFrom h f d.decider → IsTold f h
told_between h before g f sent d up below = record { registration = g; family = d.family; decider = d.decider; sent = sent; under = d.under; up = up; below = below }

-- it is enough that the decider stays, and that no family between gets another one between or a participant
stays_by : (y : Line) (h before : List Line) (g : List ℕ) → IsSent words.Commit g h → (d : IsDueNow g before h)
    → IsDecidedBy (y ∷ h) d.decider d.family
    → ((f : List ℕ) → IsUpFrom (y ∷ h) d.family f → IsUpFrom h d.family f)
    → ((f : List ℕ) → IsUpFrom h d.family f → IsUpFrom (y ∷ h) f d.decider → IsUpFrom h f d.decider)
    → ((f p : List ℕ) → IsTold f h → TakesPart p f (y ∷ h) → TakesPart p f h)
    → IsDueNow g before (y ∷ h)
stays_by y h before g sent d by up_back below_back part = record {
  family = d.family;
  decider = d.decider;
  under = record {
    transaction = d.under.transaction;
    registered = (d.under.registered.0, inr d.under.registered.1);
    of_family = is_of Any h (y ∷ h) d.family d.under.transaction (carries_on y h) tt d.under.of_family;
    decided = by;
  };
  decided = record {
    recorded = d.decided.recorded;
    consented = λ f p up below takes.
        let u = up_back f up in
        let b = below_back f u below in
        d.decided.consented f p u b (part f p (told_between h before g f sent d u b) takes);
  };
}

-- a line that makes no transaction leaves who stands above whom
stays_below : (y : Line) (h before : List Line) (g : List ℕ) → ¬ (kind y ≡ making) → IsSent words.Commit g h → (d : IsDueNow g before h)
    → IsDecidedBy (y ∷ h) d.decider d.family → ((f p : List ℕ) → IsTold f h → TakesPart p f (y ∷ h) → TakesPart p f h) → IsDueNow g before (y ∷ h)
stays_below y h before g differ sent d by part = stays_by y h before g sent d by
    (λ f up. is_up_from Any (y ∷ h) h d.family f (carries_back y h differ) tt up)
    (λ f up below. is_up_from Any (y ∷ h) h f d.decider (carries_back y h differ) tt below) part

-- and one that tells nobody to decide alone leaves who decides
decider_stays : (y : Line) (h : List Line) (d f : List ℕ) → ¬ (kind y ≡ making) → ¬ (kind y ≡ deciding) → IsDecidedBy h d f → IsDecidedBy (y ∷ h) d f
decider_stays y h d f not_making not_deciding by =
    is_decided_by Any h (y ∷ h) d f (carries_on y h) (deciders_on y h) (deciders_back y h not_making not_deciding) tt by

-- a plain line
stays_plain : (y : Line) (h before : List Line) (g : List ℕ) → kind y ≡ plain → IsDueNow g before h → IsDueNow g before (y ∷ h)
stays_plain y h before g e d = due_alike h (y ∷ h) before before g (alike_on y h e) (λ line s. s) d

-- a registration with what is open
reg_back : (h : List Line) (k u end p f : List ℕ) → IsOpen u h → IsTold f h → TakesPart p f (lines.Reg k u end ∷ h) → TakesPart p f h
reg_back h k u end p f in_time told (t, (e, inr s), joined) =
    (t, (e, s), is_joined Any (lines.Reg k u end ∷ h) h f t (carries_back (lines.Reg k u end) h (λ q. absurd (cc))) (ends_back (lines.Reg k u end) h (λ q. absurd (cc))) tt joined)
reg_back h k u end p f in_time told (t, (e, inl same), joined) =
    let here = is_joined Any (lines.Reg k u end ∷ h) h f t (carries_back (lines.Reg k u end) h (λ q. absurd (cc))) (ends_back (lines.Reg k u end) h (λ q. absurd (cc))) tt joined in
    let at : t ≡ u = cc in
    absurd (in_time f (subst (λ (x : List ℕ). IsOf h f x) at (of_joined h f t here)) told)

stays_reg : (h before : List Line) (g k u end : List ℕ) → IsOpen u h → IsSent words.Commit g h → IsDueNow g before h → IsDueNow g before (lines.Reg k u end ∷ h)
stays_reg h before g k u end in_time sent d =
    let y : Line = lines.Reg k u end in
    stays_below y h before g (λ q. absurd (cc)) sent d
    (decider_stays y h d.decider d.family (λ q. absurd (cc)) (λ q. absurd (cc)) d.under.decided)
    (λ f p told takes. reg_back h k u end p f in_time told takes)

-- the commit of a subtransaction that is open
joined_back : (h : List Line) (u f t : List ℕ) → IsJoined (lines.SubDone u true ∷ h) f t → IsJoined h f t ⊎ IsOf h f u
joined_back h u f _ (safe.IsJoined.own family) = inl (safe.IsJoined.own (family_back family))
  where
    family_back : IsFamily f (lines.SubDone u true ∷ h) → IsFamily f h
    family_back (inl (node, s)) = inl (node, other (lines.SubDone u true) (lines.Top f node) h (λ q. absurd (cc)) s)
    family_back (inr (t, (node, s))) = inr (t, (node, other (lines.SubDone u true) (lines.Imp f t node) h (λ q. absurd (cc)) s))
joined_back h u f _ (safe.IsJoined.committed t parent done s joined) = go done (joined_back h u f parent joined)
  where
    sub : Stands (lines.Sub t parent) h
    sub = other (lines.SubDone u true) (lines.Sub t parent) h (λ q. absurd (cc)) s

    go : Stands (lines.SubDone t true) (lines.SubDone u true ∷ h) → IsJoined h f parent ⊎ IsOf h f u → IsJoined h f t ⊎ IsOf h f u
    go here (inr of) = inr of
    go (inr earlier) (inl back) = inl (safe.IsJoined.committed t parent earlier sub back)
    go (inl same) (inl back) =
        let at : t ≡ u = cc in
        inr (subst (λ (x : List ℕ). IsOf h f x) at (safe.IsOf.child t parent sub (of_joined h f parent back)))

end_back : (h : List Line) (u p f : List ℕ) → IsOpen u h → IsTold f h → TakesPart p f (lines.SubDone u true ∷ h) → TakesPart p f h
end_back h u p f in_time told (t, registered, joined) =
    let r = is_registered (lines.SubDone u true ∷ h) h p t (registrations_back (lines.SubDone u true) h (λ q. absurd (cc))) registered in
    elim (joined_back h u f t joined) [ inl back ↦ (t, r, back) | inr of ↦ absurd (in_time f of told) ]

stays_end : (h before : List Line) (g u : List ℕ) → IsOpen u h → IsSent words.Commit g h → IsDueNow g before h → IsDueNow g before (lines.SubDone u true ∷ h)
stays_end h before g u in_time sent d =
    let y : Line = lines.SubDone u true in
    stays_below y h before g (λ q. absurd (cc)) sent d
    (decider_stays y h d.decider d.family (λ q. absurd (cc)) (λ q. absurd (cc)) d.under.decided)
    (λ f p told takes. end_back h u p f in_time told takes)

-- commit_one_phase, where commit wasn't told
alone_back : (h : List Line) (message : ℕ) (k f : List ℕ) → DecidesAlone f (lines.Send message words.CommitOnePhase k ∷ h) → ¬ (DecidesAlone f h) → f ≡ k
alone_back h message k f (inl (node, s)) waits = absurd (waits (inl (node, other (lines.Send message words.CommitOnePhase k) (lines.Top f node) h (λ q. absurd (cc)) s)))
alone_back h message k f (inr (m, inl same)) waits = cc
alone_back h message k f (inr (m, inr s)) waits = absurd (waits (inr (m, s)))

decider_stays_alone : (h : List Line) (message : ℕ) (k d f : List ℕ) → ((x : List ℕ) → IsUpFrom h f x → IsUpFrom h x d → ¬ (x ≡ k)) → IsDecidedBy h d f
    → IsDecidedBy (lines.Send message words.CommitOnePhase k ∷ h) d f
decider_stays_alone h message k d _ apart (safe.alone decides) = safe.alone (deciders_on (lines.Send message words.CommitOnePhase k) h d tt decides)
decider_stays_alone h message k d _ apart (safe.superior f t above waits (node, s) of by) =
    let y : Line = lines.Send message words.CommitOnePhase k in
    let up = up_to_decider h d above by in
    safe.superior f t above
    (λ decides. apart f (safe.itself f) (safe.above f t above d (node, s) of up) (alone_back h message k f decides waits))
    (node, inr s) (is_of Any h (y ∷ h) above t (carries_on y h) tt of)
    (decider_stays_alone h message k d above (λ x u b. apart x (safe.above f t above x (node, s) of u) b) by)

stays_alone : (h before : List Line) (message : ℕ) (g k : List ℕ) → ¬ (IsTold k h) → IsSent words.Commit g h → IsDueNow g before h
    → IsDueNow g before (lines.Send message words.CommitOnePhase k ∷ h)
stays_alone h before message g k in_time sent d =
    let y : Line = lines.Send message words.CommitOnePhase k in
    stays_below y h before g (λ q. absurd (cc)) sent d
    (decider_stays_alone h message k d.decider d.family (λ x up below e. in_time (subst (λ (f : List ℕ). IsTold f h) e (told_between h before g x sent d up below))) d.under.decided)
    (λ f p told takes. takes_part Any (y ∷ h) h p f (carries_back y h (λ q. absurd (cc))) (ends_back y h (λ q. absurd (cc))) (registrations_back y h (λ q. absurd (cc))) (λ t registered. tt) takes)

-- a line that makes a new transaction
made : (y : Line) (t : List ℕ) → Makes t y → kind y ≡ making
made (lines.Top u node) t m = refl
made (lines.Imp u s node) t m = refl
made (lines.Sub u parent) t m = refl
made _ t m = absurd m

old_family : (h : List Line) (t f : List ℕ) → IsNew t h → IsFamily f h → But t f
old_family h t f new (inl top) e = new.no_top (subst (λ (x : List ℕ). IsTop x h) e top)
old_family h t f new (inr (s, imported)) e = new.no_import s (subst (λ (x : List ℕ). IsImported x s h) e imported)

carries_new : (y : Line) (h : List Line) (t : List ℕ) → Makes t y → IsNew t h → Carries (But t) (y ∷ h) h
carries_new y h t makes new = record {
  top = λ u node but s. makes_other y (lines.Top u node) h t u makes refl but s;
  imp = λ f u node but s.
      let k = makes_other y (lines.Imp f u node) h t f makes refl but s in
      (k, λ e. new.no_import_of f (node, subst (λ (x : List ℕ). Stands (lines.Imp f x node) h) e k));
  sub = λ u parent but s.
      let k = makes_other y (lines.Sub u parent) h t u makes refl but s in
      (k, λ e. new.no_sub_of u (subst (λ (x : List ℕ). Stands (lines.Sub u x) h) e k));
  family = λ f family stood. old_family h t f new stood;
}

carries_still : (y : Line) (h : List Line) (t : List ℕ) → IsNew t h → Carries (But t) h (y ∷ h)
carries_still y h t new = record {
  top = λ u node but s. inr s;
  imp = λ f u node but s. (inr s, λ e. new.no_import_of f (node, subst (λ (x : List ℕ). Stands (lines.Imp f x node) h) e s));
  sub = λ u parent but s. (inr s, λ e. new.no_sub_of u (subst (λ (x : List ℕ). Stands (lines.Sub u x) h) e s));
  family = λ f stood family. old_family h t f new stood;
}

-- a family above one that was there was there
family_above : (h : List Line) (f x : List ℕ) → IsFamily f h → IsUpFrom h f x → IsFamily x h
family_above h _ _ family (safe.itself f) = family
family_above h _ _ family (safe.above f t next x imported of up) = family_above h next x (family_of h next t of) up

decides_back : (y : Line) (h : List Line) (t : List ℕ) → Makes t y → CarriesDeciders (But t) (y ∷ h) h
decides_back y h t makes f but (inl (node, s)) = inl (node, makes_other y (lines.Top f node) h t f makes refl but s)
decides_back y h t makes f but (inr (message, s)) =
    let e = made y t makes in
    inr (message, other y (lines.Send message words.CommitOnePhase f) h (λ q. absurd (cc)) s)

new_back : (y : Line) (h : List Line) (t p f : List ℕ) → Makes t y → IsNew t h → TakesPart p f (y ∷ h) → TakesPart p f h
new_back y h t p f makes new takes =
    let e = made y t makes in
    let registrations = registrations_back y h (λ q. absurd (cc)) in
    takes_part (But t) (y ∷ h) h p f (carries_new y h t makes new) (ends_back y h (λ q. absurd (cc))) registrations
    (λ u registered same. new.no_registration p (subst (λ (x : List ℕ). IsRegistered p x h) same (is_registered (y ∷ h) h p u registrations registered))) takes

stays_new : (y : Line) (h before : List Line) (g t : List ℕ) → Makes t y → IsNew t h → IsSent words.Commit g h → IsDueNow g before h → IsDueNow g before (y ∷ h)
stays_new y h before g t makes new sent d =
    let family = family_of h d.family d.under.transaction d.under.of_family in
    let but = old_family h t d.family new family in
    let carries = carries_new y h t makes new in
    stays_by y h before g sent d
    (is_decided_by (But t) h (y ∷ h) d.decider d.family (carries_still y h t new) (λ f old decides. deciders_on y h f tt decides) (decides_back y h t makes) but d.under.decided)
    (λ f up. is_up_from (But t) (y ∷ h) h d.family f carries but up)
    (λ f up below. is_up_from (But t) (y ∷ h) h f d.decider carries (old_family h t f new (family_above h d.family f family up)) below)
    (λ f p told takes. new_back y h t p f makes new takes)

-- whatever line is allowed
pub stays : (y : Line) (h before : List Line) (g : List ℕ) → IsAllowed y h → IsSent words.Commit g h → IsDueNow g before h → IsDueNow g before (y ∷ h)
stays (lines.Top t node) h before g a sent d = stays_new (lines.Top t node) h before g t refl a sent d
stays (lines.Imp f t node) h before g a sent d = stays_new (lines.Imp f t node) h before g f refl a sent d
stays (lines.Sub t parent) h before g a sent d = stays_new (lines.Sub t parent) h before g t refl a sent d
stays (lines.Reg k u end) h before g a sent d = stays_reg h before g k u end a.in_time sent d
stays (lines.SubDone u true) h before g a sent d = stays_end h before g u a sent d
stays (lines.Send message words.CommitOnePhase k) h before g a sent d = stays_alone h before message g k a.in_time sent d
stays y h before g a sent d = stays_plain y h before g refl d
