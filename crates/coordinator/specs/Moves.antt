-- What comes of something that happens to a family, and of one thing after another.
use Rattle.std.specs.Prelude.{ℕ, ◌+◌, List, [], ◌∷◌, ◌++◌, Option, Some, None}
use Rattle.ots_model.specs.declared.completion.Receipt.{Receipt}
use Rattle.ots_model.specs.Numbered.{Outcome}
use Rattle.ots_model.specs.declared.tree.Outward.{Outward}
use Rattle.ots_model.specs.declared.tree.Word.{Word}
use Rattle.two_phase.specs.Stages as stages
use Rattle.two_phase.specs.Stages.{Standing}
use Rattle.coordinator.specs.declared.effect.Effect.{Effect}
use Rattle.coordinator.specs.declared.effect.Effect.TheVariants as effects
use Rattle.coordinator.specs.declared.said.Finished.{Finished}
use Rattle.coordinator.specs.declared.said.Said.{Said}
use Rattle.coordinator.specs.Family.{Family, Call, with_call, without_call, number_of}

-- the family, the words that go out, the earlier calls that are answered, and what happened, each in order
pub record Moved : Type 0 where
  pub family : Family
  pub words : List Outward
  pub finished : List Finished
  pub effects : List Effect

-- a family, of which nothing comes
abbrev pub only : Family → Moved
only f = record { family = f; words = []; finished = []; effects = [] }

abbrev pub after : Moved → Moved → Moved
after first then = record {
  family = then.family;
  words = first.words ++ then.words;
  finished = first.finished ++ then.finished;
  effects = first.effects ++ then.effects;
}

-- one thing, and then what comes next
infixl 10 ◌▹◌
abbrev pub ◌▹◌ : Moved → (Family → Moved) → Moved
first ▹ next = after first (next first.family)

-- something happened
abbrev pub shows : List Effect → Family → Moved
shows some f = record (only f) { effects = some }

-- a call that waits for its answer is given it
abbrev pub answer_to : Option ℕ → Said → List Finished
answer_to (Some position) said = record { position = position; said = said } ∷ []
answer_to None said = []

abbrev pub answers : Option ℕ → Said → Family → Moved
answers caller said f = record (only f) { finished = answer_to caller said }

-- a word to a registration or a synchronization, by its number and its reference
pub record Notice : Type 0 where
  pub word : Word
  pub registration : ℕ
  pub to : List ℕ

-- a word of a call, with the number behind those that have gone out
abbrev pub outward : Family → Notice → Option Receipt → Outward
outward f n receipt = record {
  number = number_of f (f.serial + 1);
  registration = n.registration;
  to = n.to;
  word = n.word;
  receipt = receipt;
}

-- it goes out, and the call waits
unfoldable pub sends : ℕ → Call → Notice → Option Receipt → Family → Moved
sends b c n receipt f = record (only (with_call b (record c { out = Some (f.serial + 1) }) (record f { serial = f.serial + 1 }))) {
  words = outward f n receipt ∷ [];
}

-- a call is over, and is answered
unfoldable pub ends_call : ℕ → Call → Said → Family → Moved
ends_call b c said f = answers c.caller said (without_call b f)

-- an outcome that wasn't fixed before is told
abbrev pub fixed_now : Option Outcome → Option Outcome → List Effect
fixed_now None (Some fixed) = effects.Decided fixed ∷ []
fixed_now _ _ = []

-- the completion goes on: where its outcome is fixed by that, it is told
unfoldable pub completes_as : Standing → Family → Moved
completes_as later f = record (only (record f { completion = later })) {
  effects = fixed_now (stages.outcome f.completion) (stages.outcome later);
}
