-- What a put has done, by how its transaction was found.
use Rattle.std.proofs.Common.{◌≡◌, ◌≢◌, refl, subst, ℕ, List, Result}
use Rattle.ior_refs.specs.declared.key.ObjectKey.{ObjectKey}
use Rattle.ots_calls.specs.declared.answer.Answer.{Answer}
use Rattle.ots_context.specs.declared.context.Context.{Context}
use Rattle.ots_model.specs.declared.tree.Heard.{Heard}
use Rattle.ots_model.specs.declared.tree.Heard.TheVariants as hears
use Rattle.resource_end.specs.declared.fault.EndFault.{EndFault}
use Rattle.end_room.specs.Deeds.{Deed, Binds, Enters, Unmakes}
use Rattle.end_room.specs.Place.{EndPlace}
use Rattle.end_room.specs.declared.ends.Entered.{Entered}
use Rattle.outward_calls.specs.Moment.{LinkMoment}
use Rattle.end_server.specs.Answers.{IsUnregistered, OnBound, OnEntered, OnHeard, PutsNew, PutsRegistered, PutsWithin, tid_of, unregistered}
use Rattle.end_server.specs.Serving.{EndSide, GoesOut, registering, side}

module _ {E : Type 0} (does : E → Deed → E → Type 0) (place : EndPlace) (context : Context) (cell value : ℕ) (tid : List ℕ)
    (same : tid ≡ tid_of context) where
  -- the end was entered, and what comes of that
  pub puts_within : (before midway : E) (link : LinkMoment) (r said : Result Entered EndFault) → r ≡ said → (answer : Answer) (after : EndSide E)
      → does before (Enters tid r) midway → OnEntered does place context cell value said (side midway link) answer after
      → PutsWithin does place context cell value (side before link) answer after
  puts_within before midway link r said is answer after entered rest = (
    said,
    (
      side midway link,
      record {
        deed_is = subst (λ t. does before (Enters t said) midway) same (subst (λ x. does before (Enters tid x) midway) is entered);
        unsaid = refl;
      },
      rest,
    ),
  )

  -- the new resource's registration went out, and what comes of what was heard
  pub puts_new : (own : EndPlace) → own ≡ place → (key : ObjectKey) (ends : E) (link later : LinkMoment) (r heard : Heard) → r ≡ heard
      → (answer : Answer) (after : EndSide E) → GoesOut own (registering context.current.coord key) link r later
      → OnHeard does heard (tid_of context) key cell value (side ends later) answer after
      → PutsNew does place context key cell value (side ends link) answer after
  puts_new own is_place key ends link later r heard is answer after sent rest = (
    heard,
    (
      later,
      subst (λ p. GoesOut p (registering context.current.coord key) link heard later) is_place
          (subst (λ x. GoesOut own (registering context.current.coord key) link x later) is sent),
      rest,
    ),
  )

  -- it is bound, and what comes of that
  pub puts_registered : (recovery : List ℕ) (key : ObjectKey) (ends bound : E) (link : LinkMoment) (r said : Result (Unit {0}) EndFault) → r ≡ said
      → (answer : Answer) (after : EndSide E) → does ends (Binds tid key recovery r) bound
      → OnBound does said key cell value (side bound link) answer after
      → PutsRegistered does (tid_of context) recovery key cell value (side ends link) answer after
  puts_registered recovery key ends bound link r said is answer after binds rest = (
    said,
    (
      side bound link,
      record {
        deed_is = subst (λ t. does ends (Binds t key recovery said) bound) same (subst (λ x. does ends (Binds tid key recovery x) bound) is binds);
        unsaid = refl;
      },
      rest,
    ),
  )

  -- it isn't registered, and is unmade
  pub is_unregistered : (key : ObjectKey) (heard : Heard) (ends unmade : E) (link : LinkMoment) (answer : Answer) → does ends (Unmakes key) unmade
      → answer ≡ unregistered heard → IsUnregistered does key heard (side ends link) answer (side unmade link)
  is_unregistered key heard ends unmade link answer unmakes is = record {
    unmakes = record { deed_is = unmakes; unsaid = refl };
    answer_is = is;
  }

  pub on_other : (heard : Heard) (key : ObjectKey) (before : EndSide E) (answer : Answer) (after : EndSide E)
      → ((recovery : List ℕ) → heard ≢ hears.Enlisted recovery) → IsUnregistered does key heard before answer after
      → OnHeard does heard (tid_of context) key cell value before answer after
  on_other (hears.Phase h) key before answer after other is = is
  on_other (hears.Told status) key before answer after other is = is
  on_other (hears.Enlisted recovery) key before answer after other is = absurd (other recovery refl)
