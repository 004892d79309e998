-- Lists of lines that say the same of names: who is registered, of a family, joined to it, and who decides.
use Rattle.std.proofs.Common.{◌≡◌, ℕ, inl, inr, List, ◌∷◌}
use Rattle.ots_model.specs.declared.line.Line.{Line}
use Rattle.ots_model.specs.declared.line.Line.TheVariants as lines
use Rattle.ots_model.specs.Safe.{Stands, HasConsented, IsUnder, IsDecided}
use Rattle.ots_model.proofs.SafeCarried.{Carries, CarriesRegistrations, CarriesEnds, CarriesDeciders, is_registered, is_of, takes_part, is_up_from, is_decided_by}
use Rattle.ots_model.proofs.SafeNewest.{plain, kind, Any, carries_on, deciders_on, carries_back, registrations_back, ends_back, deciders_back}

-- what stands among a stands among b
abbrev pub AreAmong : List Line → List Line → Type 0
AreAmong a b = (line : Line) → Stands line a → Stands line b

pub record AreAlike (a b : List Line) : Type 0 where
  pub there : Carries Any a b
  pub back : Carries Any b a
  pub ends_there : CarriesEnds a b
  pub ends_back : CarriesEnds b a
  pub registrations_there : CarriesRegistrations a b
  pub registrations_back : CarriesRegistrations b a
  pub deciders_there : CarriesDeciders Any a b
  pub deciders_back : CarriesDeciders Any b a

-- a plain line says nothing more
pub alike_on : (y : Line) (h : List Line) → kind y ≡ plain → AreAlike h (y ∷ h)
alike_on y h e = record {
  there = carries_on y h;
  back = carries_back y h (λ q. absurd (cc));
  ends_there = λ t s. inr s;
  ends_back = ends_back y h (λ q. absurd (cc));
  registrations_there = λ g t end s. inr s;
  registrations_back = registrations_back y h (λ q. absurd (cc));
  deciders_there = deciders_on y h;
  deciders_back = deciders_back y h (λ q. absurd (cc)) (λ q. absurd (cc));
}

-- nor do other lists of the same lines
pub carries_among : (a b : List Line) → AreAmong a b → Carries Any a b
carries_among a b among = record {
  top = λ t node old s. among (lines.Top t node) s;
  imp = λ f t node old s. (among (lines.Imp f t node) s, tt);
  sub = λ t parent old s. (among (lines.Sub t parent) s, tt);
  family = λ f family same. tt;
}

deciders_among : (a b : List Line) → AreAmong a b → CarriesDeciders Any a b
deciders_among a b among f old (inl (node, s)) = inl (node, among (lines.Top f node) s)
deciders_among a b among f old (inr (message, s)) = inr (message, among _ s)

pub alike_among : (a b : List Line) → AreAmong a b → AreAmong b a → AreAlike a b
alike_among a b there back = record {
  there = carries_among a b there;
  back = carries_among b a back;
  ends_there = λ t s. there _ s;
  ends_back = λ t s. back _ s;
  registrations_there = λ g t end s. there (lines.Reg g t end) s;
  registrations_back = λ g t end s. back (lines.Reg g t end) s;
  deciders_there = deciders_among a b there;
  deciders_back = deciders_among b a back;
}

pub alike_back : (a b : List Line) → AreAlike a b → AreAlike b a
alike_back a b like = record {
  there = like.back;
  back = like.there;
  ends_there = like.ends_back;
  ends_back = like.ends_there;
  registrations_there = like.registrations_back;
  registrations_back = like.registrations_there;
  deciders_there = like.deciders_back;
  deciders_back = like.deciders_there;
}

pub under_alike : (a b : List Line) (g f d : List ℕ) → AreAlike a b → IsUnder g f d a → IsUnder g f d b
under_alike a b g f d like u = record {
  transaction = u.transaction;
  registered = is_registered a b g u.transaction like.registrations_there u.registered;
  of_family = is_of Any a b f u.transaction like.there tt u.of_family;
  decided = is_decided_by Any a b d f like.there like.deciders_there like.deciders_back tt u.decided;
}

consented_among : (before earlier : List Line) (p : List ℕ) → AreAmong before earlier → HasConsented p before → HasConsented p earlier
consented_among before earlier p among (inl s) = inl (among _ s)
consented_among before earlier p among (inr s) = inr (among _ s)

pub decided_alike : (a b before earlier : List Line) (f d : List ℕ) → AreAlike a b → AreAmong before earlier → IsDecided f d before a → IsDecided f d earlier b
decided_alike a b before earlier f d like among decided = record {
  recorded = among _ decided.recorded;
  consented = λ k p up below takes. consented_among before earlier p among
      (decided.consented k p (is_up_from Any b a f k like.back tt up) (is_up_from Any b a k d like.back tt below)
      (takes_part Any b a p k like.back like.ends_back like.registrations_back (λ t registered. tt) takes));
}

-- the registration's family has a decider, by whom its commit is decided
pub record IsDueNow (g : List ℕ) (before all : List Line) : Type 0 where
  pub family : List ℕ
  pub decider : List ℕ
  pub under : IsUnder g family decider all
  pub decided : IsDecided family decider before all

pub due_alike : (a b before earlier : List Line) (g : List ℕ) → AreAlike a b → AreAmong before earlier → IsDueNow g before a → IsDueNow g earlier b
due_alike a b before earlier g like among d = record {
  family = d.family;
  decider = d.decider;
  under = under_alike a b g d.family d.decider like d.under;
  decided = decided_alike a b before earlier d.family d.decider like among d.decided;
}
