use Rattle.std.proofs.Common.{◌≡◌, ◌∙◌, inl, inr, ℕ, List, ◌||◌, get_or, length, refl, ap, sym, subst, arith}
use Rattle.std.specs.Prelude.{is_some}
use Rattle.std.proofs.lemmas.List.{get_or_default}
use Rattle.decision_journal.specs.declared.record.Put.{Put}
use Rattle.std.proofs.lemmas.Bool.{and_parts, cases_eq}
use Rattle.resource_end.specs.States.{holds}
use Rattle.resource_end.specs.Cells.{value_at}
use Rattle.resource_end.specs.Inside.{IsHeldBy, Keeps, holder_in, is_another}
use Rattle.resource_end.proofs.Holding.{its, keeps_more, keeps_one, put_at}
use Rattle.resource_end.proofs.kept.Kept.hold_all.Goals as goal

pub loop-put-init : goal.loop-put-init
loop-put-init c = (refl, λ id cell was h. h, λ k d lt. absurd (omega (arith, lt)))

pub loop-put-preserved : goal.loop-put-preserved
loop-put-preserved c =
    let x : ℕ = (get_or c.as_slice-put-items.result.now c.loop-put.put-index (record { cell = 0; value = 0 })).cell in
    let one : Keeps (is_another c.in-Ok.value c.args.id) c.loop-put.cells c.hold.new.self =
    keeps_one x c.args.id c.in-Ok.value c.loop-put.cells c.hold.new.self c.in-Ok.ensures.before c.in-Ok.ensures.held c.in-Ok.ensures.others in
    let flag : c.either-contested.result ≡ (is_another c.in-Ok.value c.args.id || c.loop-put.contested) =
    c.either-contested.ensures ∙ ap (λ b. b || c.loop-put.contested) c.is_another.ensures in (
      c.in-Ok.ensures.stored ∙ c.loop-put.invariant.0,
      subst (λ b. Keeps b c.args.cells.now c.hold.new.self) (sym flag)
          (keeps_more c.loop-put.contested (is_another c.in-Ok.value c.args.id) c.args.cells.now c.loop-put.cells c.hold.new.self c.loop-put.invariant.1 one),
      λ k d lt. elim (cases_eq k c.loop-put.put-index) [
        | inl same ↦
            let at : (get_or c.args.self.now.puts k d).cell ≡ x =
            ap (λ (ps : List Put). (get_or ps k d).cell) (sym c.as_slice-put-items.ensures)
            ∙ ap (λ (j : ℕ). (get_or c.as_slice-put-items.result.now j d).cell) same
            ∙ ap (λ (p : Put). p.cell) (get_or_default c.as_slice-put-items.result.now c.loop-put.put-index d (record { cell = 0; value = 0 }) (omega (arith, c.loop-put-test.true))) in
            its c.either-contested.result c.args.id _ (ap (λ y. holder_in y c.hold.new.self) at ∙ c.in-Ok.ensures.held)
        | inr differs ↦
            subst (λ b. IsHeldBy b c.args.id (holder_in (get_or c.args.self.now.puts k d).cell c.hold.new.self)) (sym flag)
            (one c.args.id (get_or c.args.self.now.puts k d).cell c.loop-put.contested (c.loop-put.invariant.2 k d (omega (arith, lt, differs))))
      ],
    )

pub returns-clause-held : goal.returns-clause-held
returns-clause-held c cell h =
    let there = put_at cell c.args.self.now.puts (and_parts (holds c.args.self.now.state) (is_some (value_at cell c.args.self.now.puts)) h).1 in
    subst (λ x. IsHeldBy c.loop-put.contested c.args.id (holder_in x c.loop-put.cells)) (there.2 (record { cell = 0; value = 0 }))
    (c.loop-put.invariant.2 there.0 (record { cell = 0; value = 0 }) (omega (arith, there.1, c.loop-put-test.false, ap length c.as_slice-put-items.ensures)))
