-- A function read back from its record, as the rules tell it, where its path and its name stand, and what must hold of a tree and of the bytes that
-- were lent for its records.
use Rattle.std.specs.Prelude.{ℕ, ◌+◌, ◌*◌, ◌≤◌, ◌≡◌, List, [], map, length, take}
use Rattle.text_rules.specs.Bytes.{joined}
use Rattle.text_rules.specs.Sizes.{record_width}
use Rattle.gate_rules.specs.Functions as rules
use Rattle.gate_rules.specs.Gate.{gate}
use Rattle.gate_rules.specs.Records.{record_bytes, records}
use Rattle.gate_rules.specs.Scan.{functions_of}
use Rattle.gate_rules.specs.Tree.{entry_at, path_length, path_offset, tree_refusal}
use Rattle.records.specs.declared.Record.{Record}
use Rattle.functions.specs.declared.Function.{Function}
use Rattle.functions.specs.declared.Limits.{Limits}
use Rattle.functions.specs.declared.Places.{Places}

-- the limits of the rules
abbrev pub limits_of : Limits → rules.Limits
limits_of l = record { cyclomatic = l.cyclomatic; lines = l.lines; nesting = l.nesting; params = l.params }

-- the function of the rules that is meant
abbrev pub shown : Function → rules.Fun
shown f =
    record {
      path = f.path.now;
      name = f.name.now;
      line = f.line;
      lines = f.lines;
      cyclomatic = f.cyclomatic;
      nesting = f.nesting;
      params = f.params;
    }

-- path and name lie in the tree
pub record Lies (tree : List ℕ) (p : Places) : Type 0 where
  pub path-order : p.path_at ≤ p.path_end
  pub path_inside : p.path_end ≤ length tree
  pub name-order : p.name_at ≤ p.name_end
  pub name-inside : p.name_end ≤ length tree

-- they stand where a record tells
pub record Bounded (tree : List ℕ) (r : Record) (p : Places) : Type 0 where
  pub path-first : p.path_at ≡ path_offset tree (entry_at r.file)
  pub path-last : p.path_end ≡ path_offset tree (entry_at r.file) + path_length tree (entry_at r.file)
  pub name-first : p.name_at ≡ r.start
  pub name-last : p.name_end ≡ r.start + r.len

-- the tree is accepted, and its records stand at the front of the bytes
pub record Stand (tree lent : List ℕ) : Type 0 where
  pub unrefused : tree_refusal tree ≡ 0
  pub few : length (functions_of gate tree) ≤ 8192
  pub there : take (record_width * length (records tree)) lent ≡ joined (map record_bytes (records tree))

-- no function: what a number past the last one reads
abbrev pub no_fun : rules.Fun
no_fun = record { path = []; name = []; line = 0; lines = 0; cyclomatic = 0; nesting = 0; params = 0 }
