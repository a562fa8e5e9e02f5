-- The word's end and whether it decides are those of the piece.
use mathlib.Core.Path.{◌∙◌}
use Rattle.measures.proofs.BodyLaws.{word_decides, word_length}
use Rattle.measures.proofs.word_at.Goals as goal

pub returns : goal.returns
returns c =
    let a = c.args in
    let s = a.s.now in
    let l = c.requires.1 in
    record {
      end_is = word_length s a.at c.word_end-end.result c.word_end-end.ensures.end l;
      decides-is = c.decides_word.ensures ∙ word_decides s a.at c.word_end-end.result c.word_end-end.ensures.end l;
      inside = c.word_end-end.ensures.inside;
    }
