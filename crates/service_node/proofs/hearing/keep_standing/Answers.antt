use Rattle.std.proofs.Common.{◌≡◌, ◌∙◌, ◌+◌, ◌-◌, ◌<◌, Bool, List, cond, length, take, get_or, true, false, not, sym, ap, arith}
use Rattle.std.specs.Prelude.{find}
use Rattle.std.specs.List.{filter}
use Rattle.std.proofs.lemmas.List.{take_all}
use Rattle.recovery_coord.specs.Held.{Recoveries, stands_at, without}
use Rattle.recovery_coord.specs.declared.held.Held.{Held}
use Rattle.service_node.proofs.Keeping.{all_kept, fewer_left, find_more, front_left, is_there, keeps, kept_without, loses, not_false, not_true, same_others, still_within}
use Rattle.service_node.proofs.hearing.keep_standing.Goals as goal

pub loop-index-smaller-then-not-done : goal.loop-index-smaller-then-not-done
loop-index-smaller-then-not-done c =
    let ss = c.args.standing.now in
    let rs = c.loop-index.recovered.records in
    let i = c.loop-index.index in
    let x = c.index-records-index.result in
    let y = get_or c.records-in-loop-index.result.now i x in
    let lt : i < length rs = omega (arith, c.loop-index-test.true, ap length c.records.ensures) in
    let there = not_false (stands_at y.place ss) (sym c.done.ensures.done ∙ c.if-not-done.true) in
    let same : c.done.new.self ≡ c.loop-index.recovered =
    c.done.ensures.records ∙ ap (λ (b : Bool). record c.loop-index.recovered { records = cond b rs (without y.place rs) }) there in
    omega (arith, ap (λ (r : Recoveries). length r.records) same, lt)

pub loop-index-preserved-then-not-done : goal.loop-index-preserved-then-not-done
loop-index-preserved-then-not-done c =
    let ss = c.args.standing.now in
    let rs = c.loop-index.recovered.records in
    let i = c.loop-index.index in
    let x = c.index-records-index.result in
    let y = get_or c.records-in-loop-index.result.now i x in
    let lt : i < length rs = omega (arith, c.loop-index-test.true, ap length c.records.ensures) in
    let is : x ≡ get_or rs i x = c.index-records-index.is ∙ ap (λ (xs : List Held). get_or xs i x) c.records-in-loop-index.ensures in
    let there = not_false (stands_at y.place ss) (sym c.done.ensures.done ∙ c.if-not-done.true) in
    let same : c.done.new.self ≡ c.loop-index.recovered =
    c.done.ensures.records ∙ ap (λ (b : Bool). record c.loop-index.recovered { records = cond b rs (without y.place rs) }) there in
    record {
      others = same_others c.done.new.self c.loop-index.recovered c.args.recovered.now _ c.done.ensures.records c.loop-index.invariant.others;
      kept = ap (λ (r : Recoveries). filter (keeps ss) r.records) same ∙ c.loop-index.invariant.kept;
      front =
          ap (λ (r : Recoveries). find (loses ss) (take (i + 1) r.records)) same
          ∙ find_more (loses ss) rs i x lt is c.loop-index.invariant.front (ap not (ap (λ (z : Held). is_there ss z.place) c.index-records-index.is ∙ there));
      within = omega (arith, lt, ap (λ (r : Recoveries). length r.records) same);
    }

pub loop-index-smaller : goal.loop-index-smaller
loop-index-smaller c =
    let ss = c.args.standing.now in
    let rs = c.loop-index.recovered.records in
    let i = c.loop-index.index in
    let x = c.index-records-index.result in
    let y = get_or c.records-in-loop-index.result.now i x in
    let lt : i < length rs = omega (arith, c.loop-index-test.true, ap length c.records.ensures) in
    let is : x ≡ get_or rs i x = c.index-records-index.is ∙ ap (λ (xs : List Held). get_or xs i x) c.records-in-loop-index.ensures in
    let gone = not_true (stands_at y.place ss) (sym c.done.ensures.done ∙ c.if-not-done.false) in
    let lost : is_there ss x.place ≡ false = ap (λ (z : Held). is_there ss z.place) c.index-records-index.is ∙ gone in
    let left : c.done.new.self.records ≡ without x.place rs =
    ap (λ (r : Recoveries). r.records) c.done.ensures.records ∙ ap (λ (b : Bool). cond b rs (without y.place rs)) gone
    ∙ ap (λ (z : Held). without z.place rs) (sym c.index-records-index.is) in
    let less : length c.done.new.self.records - i < length rs - i =
    omega (arith, ap length left, fewer_left ss rs i x lt is c.loop-index.invariant.front lost, lt) in
    less

pub loop-index-preserved : goal.loop-index-preserved
loop-index-preserved c =
    let ss = c.args.standing.now in
    let rs = c.loop-index.recovered.records in
    let i = c.loop-index.index in
    let x = c.index-records-index.result in
    let y = get_or c.records-in-loop-index.result.now i x in
    let lt : i < length rs = omega (arith, c.loop-index-test.true, ap length c.records.ensures) in
    let is : x ≡ get_or rs i x = c.index-records-index.is ∙ ap (λ (xs : List Held). get_or xs i x) c.records-in-loop-index.ensures in
    let gone = not_true (stands_at y.place ss) (sym c.done.ensures.done ∙ c.if-not-done.false) in
    let lost : is_there ss x.place ≡ false = ap (λ (z : Held). is_there ss z.place) c.index-records-index.is ∙ gone in
    let left : c.done.new.self.records ≡ without x.place rs =
    ap (λ (r : Recoveries). r.records) c.done.ensures.records ∙ ap (λ (b : Bool). cond b rs (without y.place rs)) gone
    ∙ ap (λ (z : Held). without z.place rs) (sym c.index-records-index.is) in
    record {
      others = same_others c.done.new.self c.loop-index.recovered c.args.recovered.now _ c.done.ensures.records c.loop-index.invariant.others;
      kept = ap (filter (keeps ss)) left ∙ kept_without ss x.place lost rs ∙ c.loop-index.invariant.kept;
      front =
          ap (λ (xs : List Held). find (loses ss) (take i xs)) left
          ∙ ap (find (loses ss)) (front_left ss rs i x lt is c.loop-index.invariant.front lost)
          ∙ c.loop-index.invariant.front;
      within = omega (arith, ap length left, still_within ss rs i x lt is c.loop-index.invariant.front lost);
    }

pub returns : goal.returns
returns c =
    let ss = c.args.standing.now in
    let rs = c.loop-index.recovered.records in
    let all : take c.loop-index.index rs ≡ rs = take_all c.loop-index.index rs (omega (arith, c.loop-index-test.false, ap length c.records.ensures)) in
    let none = ap (find (loses ss)) (sym all) ∙ c.loop-index.invariant.front in
    c.loop-index.invariant.others
    ∙ ap (λ (xs : List Held). record c.args.recovered.now { records = xs }) (sym (all_kept ss rs none) ∙ c.loop-index.invariant.kept)
