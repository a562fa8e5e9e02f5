-- Small named cases of texts, one theorem: each rules out a definition that is wrong in one place and right elsewhere.
use Rattle.std.specs.Prelude.{ℕ, ◌≡◌, refl, List, [], ◌∷◌, map}
use Rattle.text_rules.specs.Bytes.{ascii}
use Rattle.source_rules.specs.Blank.{blanked}
use Rattle.source_rules.specs.Measures.{cyclomatic_of, nesting_of}
use Rattle.source_rules.specs.Parameters.{params_of}
use Rattle.source_rules.proofs.TextComputes.{all_of_texts}
use Rattle.source_rules.specs.TextScan.{functions}

-- the names of a text's functions
abbrev pub names : List ℕ → List (List ℕ)
names text = map (λ f. f.name) (functions text)

-- where the functions of a text stand, and how many lines they have
abbrev pub spread : List ℕ → List (List ℕ)
spread text = map (λ f. f.name_at ∷ f.line ∷ f.lines ∷ []) (functions text)

pub record TextCorners : Type 0 where
  -- blanking
  pub line-comment : blanked (ascii "a//b\nc") ≡ ascii "a   \nc"
  pub block-lines : blanked (ascii "/*\n*/c") ≡ ascii "  \n  c"
  pub marks_apart : blanked (ascii "/*/a*/b") ≡ ascii "      b"
  pub open_comment : blanked (ascii "/*a") ≡ ascii "   "
  pub string_escape : blanked (ascii "\"a\\\"b\"c") ≡ ascii "      c"
  pub raw_bytes : blanked (ascii "br\"a\\\"b") ≡ ascii "      b"
  pub raw_after_word : blanked (ascii "_r\"a\\\"b\"c") ≡ ascii "_r      c"
  pub raw_hashes : blanked (ascii "r##\"a\"#\"##b") ≡ ascii "          b"
  pub escape-of-11 : blanked (ascii "'\\123456789'a") ≡ ascii "            a"
  pub escape-of-12 : blanked (ascii "'\\1234567890'") ≡ ascii "'\\1234567890'"
  pub plain_character : blanked (ascii "'{'a") ≡ ascii "   a"
  pub wide_character : blanked (39 ∷ 195 ∷ 169 ∷ 39 ∷ []) ≡ 39 ∷ 195 ∷ 169 ∷ 39 ∷ []
  -- finding
  pub digit_after_fn : names (ascii "fn1 a(){}") ≡ []
  pub letter_before_fn : names (ascii "xfn a(){}") ≡ []
  pub tab-before-name : names (ascii "fn\ta(){}") ≡ ascii "a" ∷ []
  pub no_body : names (ascii "fn a();fn b(){}") ≡ ascii "b" ∷ []
  pub square_return : names (ascii "fn a()->[u8;2]{}") ≡ ascii "a" ∷ []
  pub angle_return : spread (ascii "fn a()->A<{\n}>{}") ≡ (3 ∷ 1 ∷ 1 ∷ []) ∷ []
  pub arrow_return : names (ascii "fn a()->u8{}") ≡ ascii "a" ∷ []
  pub square_below : names (ascii "fn a()]{}") ≡ []
  pub inner_function : names (ascii "fn a(){fn b(){}}fn c(){}") ≡ ascii "a" ∷ ascii "c" ∷ []
  pub raw_name : names (ascii "fn r#type(){}") ≡ ascii "r" ∷ []
  pub test_span : names (ascii "#[cfg(test)]mod t{fn a(){}}fn b(){}") ≡ ascii "b" ∷ []
  pub span_of_use : names (ascii "#[cfg(test)]use x;fn a(){}fn b(){}") ≡ ascii "b" ∷ []
  pub open_span : names (ascii "#[cfg(test)]{fn a(){}") ≡ ascii "a" ∷ []
  -- a span may begin in a body and go beyond it, so the search for spans does not jump over bodies
  pub span-from-body : names (ascii "fn a(){#[cfg(test)]}fn b(){}fn c(){}") ≡ ascii "a" ∷ ascii "c" ∷ []
  -- measures
  pub lines_of_body : spread (ascii "\nfn a\n(){\n}") ≡ (4 ∷ 2 ∷ 2 ∷ []) ∷ []
  pub whole_words : cyclomatic_of (ascii "{iffy if_ match else}") ≡ 1
  pub four-words : cyclomatic_of (ascii "{if while for loop}") ≡ 5
  -- a digit does not begin a word, and so does not hide one
  pub word_after_digit : cyclomatic_of (ascii "{1if}") ≡ 2
  pub pairs-apart : cyclomatic_of (ascii "{&&&|||=>=}") ≡ 4
  pub blocks_beside : nesting_of (ascii "{{}{{}}{}}") ≡ 3
  -- parameters
  pub white_only : params_of (0xE3 ∷ 0x80 ∷ 0x80 ∷ 9 ∷ []) ≡ 0
  pub trailing-comma : params_of (ascii "x,") ≡ 1
  pub trailing_white : params_of (120 ∷ 44 ∷ 0xC2 ∷ 0xA0 ∷ []) ≡ 1
  pub angle_opens : params_of (ascii "x:A<b>,y") ≡ 2
  pub angle_holds : params_of (ascii "x:A<b,c>") ≡ 1
  pub function_type : params_of (ascii "f: fn(u8) -> u8, b") ≡ 1
  pub self-first : params_of (ascii "&mut self, a, b") ≡ 2
  pub self-after-tab : params_of (ascii "&\tself") ≡ 1
  pub selfish : params_of (ascii "selfish: u8") ≡ 0

pub text-corners : TextCorners
unfolding all_of_texts
text-corners =
    record {
      line-comment = refl;
      block-lines = refl;
      marks_apart = refl;
      open_comment = refl;
      string_escape = refl;
      raw_bytes = refl;
      raw_after_word = refl;
      raw_hashes = refl;
      escape-of-11 = refl;
      escape-of-12 = refl;
      plain_character = refl;
      wide_character = refl;
      digit_after_fn = refl;
      letter_before_fn = refl;
      tab-before-name = refl;
      no_body = refl;
      square_return = refl;
      angle_return = refl;
      arrow_return = refl;
      square_below = refl;
      inner_function = refl;
      raw_name = refl;
      test_span = refl;
      span_of_use = refl;
      open_span = refl;
      span-from-body = refl;
      lines_of_body = refl;
      whole_words = refl;
      four-words = refl;
      word_after_digit = refl;
      pairs-apart = refl;
      blocks_beside = refl;
      white_only = refl;
      trailing-comma = refl;
      trailing_white = refl;
      angle_opens = refl;
      angle_holds = refl;
      function_type = refl;
      self-first = refl;
      self-after-tab = refl;
      selfish = refl;
    }
