-- What is known of the resources of a world, and of a family, is known once a seat has changed and further lines are told.
use Rattle.std.proofs.Common.{◌≡◌, ◌↔◌, ℕ, Bool, true, false, is_some, IsTrue, List, Contains, Some, refl, sym, ap, subst, ◌∙◌}
use Rattle.ior_refs.specs.declared.key.ObjectKey.{ObjectKey}
use Rattle.ots_model.specs.Safe.{Stands}
use Rattle.ots_model.specs.declared.completion.Vote.{Vote}
use Rattle.ots_model.specs.declared.line.Line.{Line}
use Rattle.ots_model.specs.declared.line.Line.TheVariants as lines
use Rattle.ots_model.specs.declared.completion.Outcome.TheVariants as outcomes
use Rattle.ots_model.specs.declared.completion.Ground.TheVariants.{Record}
use Rattle.resource_votes.specs.declared.registration.Registration.{Registration}
use Rattle.two_phase.specs.Stages as stages
use Rattle.two_phase.specs.Stages.{Standing as Completion}
use Rattle.coordinator.specs.Family.{Family}
use Rattle.family_laws.specs.LawsOfTelling.{IsVoted}
use Rattle.family_laws.specs.Sound.{IsSoundFamily}
use Rattle.nodes_world.specs.Agreement.{StatesFollow, has_record, is_decision_of}
use Rattle.nodes_world.specs.AgreementInside.{FamilyIsKnown, HasAnswered, IsBranch, OutcomeIsTold, ResourceIsKnown, ResourcesAreKnown}
use Rattle.nodes_world.specs.Objects.{place_of}
use Rattle.nodes_world.specs.Told.{Told}
use Rattle.nodes_world.specs.World.{World, Seat, FlatResource, NamedKey, referred, resource_at, with_seat}
use Rattle.nodes_world.proofs.KnownLines.{AreAmong, lines_of}
use Rattle.nodes_world.proofs.KnownRequests.{follows_kept, unvoted_kept, voted_kept}

-- a line of a registration, of a branch, of a word or of a resource's state
abbrev pub is_of_others : Line → Bool
is_of_others (lines.Reg resource transaction end) = true
is_of_others (lines.Sub transaction above) = true
is_of_others (lines.Send message word resource) = true
is_of_others (lines.State resource state) = true
is_of_others _ = false

module _ (w : World) (place : ℕ) (left : Seat) (told more : List Told) (refers : (to : List ℕ) → referred (with_seat place left w) to ≡ referred w to)
    (resources : (of : ObjectKey) → resource_at (with_seat place left w) of ≡ resource_at w of) (on : AreAmong (lines_of told) (lines_of more))
    (back : (line : Line) → is_of_others line ≡ true → Stands line (lines_of more) → Stands line (lines_of told)) where
  abbrev v : World
  v = with_seat place left w

  -- ---- resources

  answered_on : (name : List ℕ) (vote : Vote) → HasAnswered w name vote → HasAnswered v name vote
  answered_on name vote (nth, from, reply, o, r, m, word, prepare, leads, named, at, says) =
      (nth, from, reply, o, r, m, word, prepare, refers o.to ∙ leads, named, at, says)

  answered_back : (name : List ℕ) (vote : Vote) → HasAnswered v name vote → HasAnswered w name vote
  answered_back name vote (nth, from, reply, o, r, m, word, prepare, leads, named, at, says) =
      (nth, from, reply, o, r, m, word, prepare, sym (refers o.to) ∙ leads, named, at, says)

  resource_kept : (name : List ℕ) (r : FlatResource) → ResourceIsKnown w (lines_of told) name r → ResourceIsKnown v (lines_of more) name r
  resource_kept name r was = record {
    commit = λ a. voted_kept r.state name _ _ on (was.commit (answered_back name _ a));
    read_only = λ a. was.read_only (answered_back name _ a);
    rollback = λ a. was.rollback (answered_back name _ a);
    none = λ no. unvoted_kept r.state name _ _ on (was.none (λ vote a. no vote (answered_on name vote a)));
    applied = (λ x. was.applied.0 (back _ refl x), λ e. on _ (was.applied.1 e));
    undone = (λ x. was.undone.0 (back _ refl x), λ e. on _ (was.undone.1 e));
    follows = follows_kept r.state name _ _ on
        (λ undone sent. (subst (λ x. StatesFollow x name (lines_of told)) undone was.follows) (sent.0, back _ refl sent.1)) was.follows;
  }

  pub resources_kept : ResourcesAreKnown w (lines_of told) → ResourcesAreKnown v (lines_of more)
  resources_kept known name of r named at = resource_kept name r (known name of r named (sym (resources of) ∙ at))

  -- ---- a family

  -- what is known of it besides, where its completion may be another one
  pub record IsKnownLater (h : Family) (later : Completion) (name : List ℕ) : Type 0 where
    pub sound : IsSoundFamily (record h { completion = later })
    pub settled : stages.wants_decision later ≡ false
    pub ends : (t : List ℕ) (b : ℕ) (how : Bool) → IsBranch w h t b → Stands (lines.SubDone t how) (lines_of more) → Stands (lines.SubDone t how) (lines_of told)
    pub votes : (number : ℕ) (vote : Vote) (r : Registration) (object : NamedKey) → Contains h.ballots.registrations r → r.index ≡ number
        → referred w r.to ≡ Some object → IsVoted later number vote ↔ Stands (lines.Voted object.name vote) (lines_of more)
    pub outcome : OutcomeIsTold (stages.outcome later) name (lines_of more)
    pub recorded : IsTrue (has_record v (place_of h.key) (is_decision_of h.key)) ↔ (stages.outcome later ≡ Some (outcomes.Commit Record))

  pub family_kept : (h : Family) (later : Completion) (old : FamilyIsKnown w (lines_of told) h) → IsKnownLater h later old.name
      → FamilyIsKnown v (lines_of more) (record h { completion = later })
  family_kept h later old then_is = record {
    sound = then_is.sound;
    name = old.name;
    of_name = old.of_name;
    top = old.top;
    branches = old.branches;
    no_further = old.no_further;
    parents = λ t above b p branch higher.
        let was = old.parents t above b p branch higher in
        (λ x. was.0 (back _ refl x), λ e. on _ (was.1 e));
    ends = λ t b how branch below.
        let was = old.ends t b how branch below in
        (λ x. was.0 (then_is.ends t b how branch x), λ e. on _ (was.1 e));
    registrations = λ x t b branch.
        let was = old.registrations x t b branch in (
          λ y. let l = was.0 (y.0, back _ refl y.1) in (l.0, l.1, l.2, l.3, l.4, refers l.1.to ∙ l.5, l.6),
          λ l. let y = was.1 (l.0, l.1, l.2, l.3, l.4, sym (refers l.1.to) ∙ l.5, l.6) in (y.0, on _ y.1),
        );
    own = λ r object t among leads registered. old.own r object t among (sym (refers r.to) ∙ leads) (registered.0, back _ refl registered.1);
    numbered = old.numbered;
    unsynchronized = old.unsynchronized;
    named = λ r among. ap is_some (refers r.to) ∙ old.named r among;
    apart = old.apart;
    within = old.within;
    came = old.came;
    dues = old.dues;
    legs = old.legs;
    ready = old.ready;
    few = old.few;
    settled = then_is.settled;
    votes = λ number vote r object among numbered leads. then_is.votes number vote r object among numbered (sym (refers r.to) ∙ leads);
    outcome = then_is.outcome;
    recorded = then_is.recorded;
  }
