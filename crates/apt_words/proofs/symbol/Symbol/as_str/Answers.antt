use Rattle.apt_words.proofs.Texts.{symbol_is_text}
use Rattle.apt_words.proofs.symbol.Symbol.as_str.Goals as goal

pub returns-in-Err : goal.returns-in-Err
returns-in-Err c = absurd (c.in-Err.ensures.cases.0 (symbol_is_text c.as_bytes.result.now c.as_bytes.ensures.symbol))
