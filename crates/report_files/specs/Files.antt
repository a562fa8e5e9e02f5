-- The files of the report, taken one after another: their order by number, and what has been listed.
use Rattle.std.specs.Prelude.{Option, None, Some, ℕ, ◌+◌, ◌≤◌, ◌<◌, ◌≡◌, Bool, true, false, List, [], ◌∷◌, ◌++◌, map}
use Rattle.std.proofs.Math.Path.{ap}
use Rattle.std.proofs.Common.{subst, sym, ◌∙◌, append_assoc, append-nil, arith, length-append, take_all, take_at}
use Rattle.std.proofs.Math.ListN.{length, take}
use Rattle.std.proofs.lemmas.List.{length-map}
use borrow.Author.Tests.{eq-eqb, le-ltb, lt-ltb, ne_eqb}
use Rattle.text_rules.specs.Bytes.{All, before, kept}
use Rattle.text_rules.specs.BytesLaws.{All-append, map-append}
use Rattle.text_rules.specs.Order.{sort}
use Rattle.text_rules.specs.Selection.{Placed, placed_from}
use Rattle.gate_rules.specs.Gate.{gate}
use Rattle.gate_rules.specs.Report as rules
use Rattle.gate_rules.specs.Report.{Weight, heavier, weight_rows, weights}
use Rattle.gate_rules.proofs.RowOrders.{heavier_orders}
use Rattle.gate_rules.specs.Tree.{file_count}
use Rattle.order.specs.Chosen.{Chosen, Fit, Taken, goes_first, item, left, left-all, left_end, left-next, taken_next, taken_none}
use Rattle.report_rows.specs.Texts.{weight_row}
use Rattle.report_files.specs.Weights.{is_listed, listed as all_listed, listed-count, no_weight, weight_at, weights-are}

-- a file's row
abbrev pub file_row : Weight → List ℕ
file_row w = weight_row w.sum w.path

-- the number of a file; where there is none, that of all files
abbrev pub number_in : List ℕ → Option ℕ → ℕ
number_in tree None = file_count tree
number_in tree (Some k) = k

-- it is a file of the tree
abbrev pub IsFile : List ℕ → Option ℕ → Type 0
IsFile tree None = Unit {0}
IsFile tree (Some k) = k < file_count tree

-- the ways that code goes through the order of the files
module _ (v w : Weight) where
  pub heavier-more : w.sum < v.sum → heavier v w ≡ true
  unfolding heavier
  heavier-more h = rw (lt-ltb w.sum v.sum h)

  pub heavier-less : v.sum ≤ w.sum → (v.sum ≡ w.sum → ⊥) → heavier v w ≡ false
  unfolding heavier
  heavier-less h n = rw (le-ltb w.sum v.sum h, ne_eqb v.sum w.sum n)

  pub heavier-same : v.sum ≡ w.sum → heavier v w ≡ before v.path w.path
  unfolding heavier
  heavier-same e = rw (le-ltb w.sum v.sum (omega arith), eq-eqb v.sum w.sum e)

module _ (tree : List ℕ) where
  abbrev pub listed : List Weight
  listed = all_listed tree

  abbrev pub file_first : ℕ → ℕ → Bool
  file_first j k = goes_first heavier heavier_orders no_weight listed j k

  abbrev pub file_at : ℕ → Placed Weight
  file_at k = item heavier heavier_orders no_weight listed k

  abbrev pub FileFit : ℕ → Placed Weight → Type 0
  FileFit last z = Fit heavier heavier_orders no_weight listed is_listed last z

  abbrev pub FileChosen : ℕ → List (Placed Weight) → ℕ → Type 0
  FileChosen last seen best = Chosen heavier heavier_orders no_weight listed is_listed last seen best

  abbrev pub FileTaken : ℕ → ℕ → Type 0
  FileTaken taken last = Taken heavier heavier_orders no_weight listed is_listed taken last

  abbrev pub files_left : ℕ → List Weight
  files_left taken = left heavier heavier_orders no_weight listed is_listed taken

  -- the heaviest files of the rules
  abbrev pub heaviest_files : List Weight
  heaviest_files = rules.heaviest (weights gate.functions_in (gate.files tree))

  -- the numbers are those of files, at most ten
  pub record Within (files : List ℕ) : Type 0 where
    pub few : length files ≤ 10
    pub inside : All (λ k. k < file_count tree) files

  -- and of the heaviest ones
  pub record Heavy (files : List ℕ) : Type 0 where
    pub within : Within files
    pub are : heaviest_files ≡ map (weight_at tree) files

  -- after `done` files the last one was `last`
  pub record Listing (done last : ℕ) (files : List ℕ) : Type 0 where
    pub count : length files ≡ done
    pub few : done ≤ 10
    pub bound : last ≤ file_count tree
    pub taken : FileTaken done last
    pub inside : All (λ k. k < file_count tree) files
    pub all : map (weight_at tree) files ++ files_left done ≡ sort heavier (kept is_listed listed)

  pub listing_none : (n : ℕ) (files : List ℕ) → n ≡ file_count tree → files ≡ [] → Listing 0 n files
  listing_none n files e s =
      record {
        count = ap length s;
        few = omega arith;
        bound = omega arith;
        taken = taken_none heavier heavier_orders no_weight listed is_listed n (e ∙ sym (listed-count tree));
        inside = subst (All (λ k. k < file_count tree)) (sym s) tt;
        all = ap (λ ks. map (weight_at tree) ks ++ files_left 0) s ∙ left-all heavier heavier_orders no_weight listed is_listed;
      }

  -- with ten, or where none is left, they are the heaviest
  heavy_at : (done last : ℕ) (files : List ℕ) → Listing done last files → take 10 (map (weight_at tree) files ++ files_left done) ≡ map (weight_at tree) files → Heavy files
  unfolding rules.heaviest
  heavy_at done last files l e =
      record {
        within = record { few = omega (arith, l.count, l.few); inside = l.inside };
        are = ap (λ ws. take 10 (sort heavier ws)) (weights-are tree) ∙ ap (take 10) (sym l.all) ∙ e;
      }

  pub heavy_ten : (done last : ℕ) (files : List ℕ) → Listing done last files → 10 ≤ done → Heavy files
  heavy_ten done last files l h =
      heavy_at done last files l (take_at (map (weight_at tree) files) (files_left done) 10 (omega (arith, length-map files (weight_at tree), l.count, l.few)))

  module _ (done last next : ℕ) (files : List ℕ) (l : Listing done last files) (c : FileChosen last (placed_from 0 listed) next) (n : next ≤ file_count tree) where
    pub heavy_end : next ≡ file_count tree → Heavy files
    heavy_end e =
        let none : files_left done ≡ [] = left_end heavier heavier_orders no_weight listed is_listed done last next l.taken c (e ∙ sym (listed-count tree)) in
        let front = map (weight_at tree) files in
        let alone : front ++ files_left done ≡ front = ap (λ ws. front ++ ws) none ∙ append-nil front in
        heavy_at done last files l (ap (take 10) alone ∙ take_all 10 front (omega (arith, length-map files (weight_at tree), l.count, l.few)))

    pub listing-next : (next ≡ file_count tree → ⊥) → next < file_count tree → done < 10 → Listing (done + 1) next (files ++ next ∷ [])
    listing-next m h few =
        let there : next ≡ length listed → ⊥ = λ e. m (e ∙ listed-count tree) in
        let next-left = left-next heavier heavier_orders no_weight listed is_listed done last next l.taken c there in
        record {
          count = length-append files (next ∷ []) ∙ (omega (arith, l.count));
          few = omega arith;
          bound = n;
          taken = taken_next heavier heavier_orders no_weight listed is_listed done last next l.taken c there;
          inside = All-append (λ k. k < file_count tree) files (next ∷ []) l.inside (h, tt);
          all =
              ap (λ ws. ws ++ files_left (done + 1)) (map-append (weight_at tree) files (next ∷ []))
              ∙ append_assoc (map (weight_at tree) files) (weight_at tree next ∷ []) (files_left (done + 1))
              ∙ ap (λ ws. map (weight_at tree) files ++ ws) (sym next-left)
              ∙ l.all;
        }
