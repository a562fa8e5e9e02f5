-- All definitions about texts that compute, by one name: what says `unfolding all_of_texts` may evaluate each of them.
use Rattle.text_rules.specs.Bytes
use Rattle.text_rules.specs.Bytes.{kept}
use Rattle.text_rules.specs.Classes
use Rattle.text_rules.specs.Decimal
use Rattle.text_rules.specs.Lines
use Rattle.text_rules.specs.Lines.{lines_in}
use Rattle.text_rules.specs.Order
use Rattle.text_rules.specs.Search
use Rattle.text_rules.specs.Search.{count_after, ends_in, find, has, opens, run, starts_with}
use Rattle.text_rules.specs.U32
use Rattle.text_rules.specs.Utf8
use Rattle.text_rules.specs.WhiteSpace
use Rattle.text_rules.specs.WhiteSpace.{text_end, trimmed, white_end}
use Rattle.source_rules.specs.Blank
use Rattle.source_rules.specs.BlankCall
use Rattle.source_rules.specs.Brackets
use Rattle.source_rules.specs.Finding
use Rattle.source_rules.specs.Measures
use Rattle.source_rules.specs.Parameters
use Rattle.source_rules.specs.TextScan

unfoldable pub all_of_texts : Unit {0}
unfolding
    Bytes.kept
    Classes.is_letter Classes.is_digit Classes.is_space Classes.class_of
    Search.run Search.opens Search.starts_with Search.ends_in Search.has Search.count_after Search.find
    Utf8.within Utf8.follow Utf8.well_formed_after Utf8.is_utf8
    WhiteSpace.is_wide_space WhiteSpace.white_length WhiteSpace.white_end WhiteSpace.text_end WhiteSpace.trimmed
    Decimal.digits Decimal.decimal Decimal.all_digits Decimal.value_from Decimal.is_numeral Decimal.without_plus Decimal.numeral Decimal.parse_number
    Lines.in_front Lines.split Lines.without_cr Lines.ended Lines.lines_in Lines.fields
    U32.u32_at U32.u32_bytes
    Order.insert Order.sort
    Blank.block_length Blank.raw_length Blank.string_length Blank.raw_letters Blank.line_token Blank.block_token Blank.raw_token Blank.string_token Blank.escape_token Blank.char_token Blank.token_length Blank.put Blank.blank_from Blank.blanked
    BlankCall.blank_number BlankCall.blank_output BlankCall.blank_call
    Brackets.depth_after Brackets.partner
    Finding.block_end Finding.span_length Finding.is_fn Finding.flat Finding.angle_after Finding.body_at Finding.name_start Finding.name_end Finding.function_from Finding.function_at
    Measures.line_at Measures.lines_of Measures.deepest Measures.nesting_of Measures.is_pair Measures.piece_length Measures.decides Measures.cyclomatic_from Measures.cyclomatic_of
    Parameters.is_opening Parameters.is_closing Parameters.parts_from Parameters.squeezed Parameters.takes_self Parameters.params_of
    TextScan.measured TextScan.sought TextScan.functions_from TextScan.functions
all_of_texts = tt
