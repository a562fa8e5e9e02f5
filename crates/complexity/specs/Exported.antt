-- What an exported call returns and leaves, one named equation for the number and for each lent buffer.
use Rattle.std.specs.Prelude.{ℕ, zero, suc, ◌≤◌, ◌≡◌, refl, List, ◌++◌, map, drop}
use Rattle.std.proofs.Common.{ap, sym, ◌∙◌, arith}
use Rattle.text_rules.specs.Bytes.{◌or_else◌, joined}
use Rattle.text_rules.specs.U32.{u32_bytes}
use Rattle.gate_rules.proofs.ExportLaws.{EndsAs, TooFew}
use Rattle.gate_rules.specs.Exports.{Exported, ExportedBlank}
use Rattle.gate_rules.specs.Tree.{tree_refusal}

pub record Ends (r : ℕ) (e : Exported) (work records output counts : List ℕ) : Type 0 where
  pub number_is : r ≡ e.number
  pub work-is : work ≡ e.work
  pub records_is : records ≡ e.records
  pub output-is : output ≡ e.output
  pub counts-is : counts ≡ e.counts

pub record EndsBlank (r : ℕ) (e : ExportedBlank) (output : List ℕ) : Type 0 where
  pub number_is : r ≡ e.number
  pub output-is : output ≡ e.output

-- the counts are put on success, and stay with a refusal
pub record CountsPut (width : ℕ) (values : List ℕ) (number : ℕ) (counts counts' : List ℕ) : Type 0 where
  pub success : number ≡ 0 → counts' ≡ joined (map u32_bytes values) ++ drop width counts
  pub refused : 1 ≤ number → counts' ≡ counts

-- where too few bytes were lent for the counts, every buffer stays
pub ends-short : (r : ℕ) (tree work records output counts : List ℕ) (e : Exported) → TooFew tree work records output counts e → r ≡ (tree_refusal tree or_else 5)
    → Ends r e work records output counts
ends-short r tree work records output counts e t q =
    record {
      number_is = q ∙ sym t.number-five;
      work-is = sym t.same-work;
      records_is = sym t.same-records;
      output-is = sym t.same-output;
      counts-is = sym t.same-counts;
    }

-- else the export ends as the call does
module _ (width : ℕ) (values : List ℕ) (number : ℕ) (w l o counts : List ℕ) (e : Exported) (ended : EndsAs width values number w l o counts e) where
  counts_end : (m : ℕ) → m ≡ number → (values' counts' : List ℕ) → values' ≡ values → CountsPut width values' m counts counts' → counts' ≡ e.counts
  counts_end zero z values' counts' v p = p.success refl ∙ ap (λ vs. joined (map u32_bytes vs) ++ drop width counts) v ∙ sym (ended.success-counts (sym z))
  counts_end (suc m) z values' counts' v p = p.refused (omega arith) ∙ sym (ended.refused-counts (omega arith))

  pub ends_as : (r m : ℕ) (values' work records output counts' : List ℕ) → r ≡ m → m ≡ number → values' ≡ values → work ≡ w → records ≡ l → output ≡ o
      → CountsPut width values' m counts counts' → Ends r e work records output counts'
  ends_as r m values' work records output counts' q z v a b c p =
      record {
        number_is = q ∙ z ∙ sym ended.same_number;
        work-is = a ∙ sym ended.same-work;
        records_is = b ∙ sym ended.same-records;
        output-is = c ∙ sym ended.same-output;
        counts-is = counts_end m z values' counts' v p;
      }
