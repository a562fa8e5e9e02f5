-- `report_files::Heaviest::new` meets its contract: at each turn the files listed, and those that are left in their order, are all.
use Prim.Native.Nat.{◌+◌}
use mathlib.Core.Path.{◌≡◌, ap, refl, subst, sym, ◌∙◌}
use native.Mathlib.Numerals.{add-one}
use native.Mathlib.Omega.{arith}
use lib.ListN.{length-set, set, take}
use lib.Seq.{take-suc-set}
use mathlib.Core.List.{[], ◌∷◌, ◌++◌}
use Rattle.gate_rules.specs.Tree.{file_count}
use Rattle.report_files.specs.Files.{Heavy, Listing, heavy_end, heavy_ten, listing-next, listing_none, number_in}
use Rattle.report_files.proofs.Heaviest.new.Goals as goal

pub loop-done-init : goal.loop-done-init
loop-done-init c =
    let tree = c.args.totals.now.tree.now in
    (tt, listing_none tree (file_count tree) [] refl refl, refl)

pub invariant_of-result : goal.invariant_of-result
invariant_of-result c =
    let tree = c.args.totals.now.tree.now in
    let l = c.loop-done in
    let n = c.next_file-last.ensures in
    let none : number_in tree c.next_file-last.result ≡ file_count tree = ap (number_in tree) c.in_default.is in
    record {
      few = l.auto.done-end;
      heavy =
          heavy_end tree l.done (number_in tree l.last) (number_in tree c.next_file-last.result) (take l.done l.files) l.invariant.1 n.chosen (omega (arith, none)) none;
    }

pub invariant_of-result-2 : goal.invariant_of-result-2
invariant_of-result-2 c =
    let tree = c.args.totals.now.tree.now in
    let l = c.loop-done in
    let ten : l.done ≡ 10 = omega (arith, l.auto.done-end, c.loop-done-test.false) in
    record {
      few = omega arith;
      heavy = subst (λ n. Heavy tree (take n l.files)) ten (heavy_ten tree l.done (number_in tree l.last) (take l.done l.files) l.invariant.1 c.loop-done-test.false);
    }

pub returns-in_default : goal.returns-in_default
returns-in_default c =
    let tree = c.args.totals.now.tree.now in
    let l = c.loop-done in
    let n = c.next_file-last.ensures in
    let none : number_in tree c.next_file-last.result ≡ file_count tree = ap (number_in tree) c.in_default.is in
    (refl, sym (heavy_end tree l.done (number_in tree l.last) (number_in tree c.next_file-last.result) (take l.done l.files) l.invariant.1 n.chosen (omega (arith, none)) none).are)

pub loop-done-preserved : goal.loop-done-preserved
loop-done-preserved c =
    let tree = c.args.totals.now.tree.now in
    let n = c.in-Some.ensures in
    let l = c.loop-done in
    let inv = l.invariant in
    let more : take (l.done + 1) (set l.files l.done c.in-Some.file) ≡ take l.done l.files ++ c.in-Some.file ∷ [] =
    rw (add-one l.done) (take-suc-set l.files l.done c.in-Some.file (omega (arith, inv.2, c.loop-done-test.true))) in (
      n.file,
      subst (Listing tree (l.done + 1) c.in-Some.file) (sym more)
          (listing-next tree l.done (number_in tree l.last) c.in-Some.file (take l.done l.files) inv.1 n.chosen (omega (arith, n.file)) (λ e. omega (arith, e, n.file)) n.file
          (omega (arith, c.loop-done-test.true))),
      length-set l.files l.done c.in-Some.file ∙ inv.2,
    )
