-- The vocabulary: the words of the language, which are no names.
use Rattle.std.specs.Prelude.{ℕ, List, [], ◌∷◌, Option, codes}
use Rattle.std.specs.List.{find}
use Rattle.std.proofs.Common.{bytes_eq}
use Rattle.apt_words.specs.declared.word.Word.{Word}
use Rattle.apt_words.specs.declared.word.Word.TheVariants as words

abbrev pub spelling : Word → List ℕ
spelling words.Partno = codes "PARTNO"
spelling words.Remark = codes "REMARK"
spelling words.Units = codes "UNITS"
spelling words.Inches = codes "INCHES"
spelling words.Mm = codes "MM"
spelling words.Clprnt = codes "CLPRNT"
spelling words.Nopost = codes "NOPOST"
spelling words.Machin = codes "MACHIN"
spelling words.Point = codes "POINT"
spelling words.Intof = codes "INTOF"
spelling words.Xlarge = codes "XLARGE"
spelling words.Xsmall = codes "XSMALL"
spelling words.Ylarge = codes "YLARGE"
spelling words.Ysmall = codes "YSMALL"
spelling words.Center = codes "CENTER"
spelling words.Line = codes "LINE"
spelling words.Parlel = codes "PARLEL"
spelling words.Perpto = codes "PERPTO"
spelling words.Left = codes "LEFT"
spelling words.Right = codes "RIGHT"
spelling words.Tanto = codes "TANTO"
spelling words.Circle = codes "CIRCLE"
spelling words.Radius = codes "RADIUS"
spelling words.Cutter = codes "CUTTER"
spelling words.Intol = codes "INTOL"
spelling words.Outtol = codes "OUTTOL"
spelling words.Tllft = codes "TLLFT"
spelling words.Tlrgt = codes "TLRGT"
spelling words.Tlon = codes "TLON"
spelling words.From = codes "FROM"
spelling words.Goto = codes "GOTO"
spelling words.Godlta = codes "GODLTA"
spelling words.Go = codes "GO"
spelling words.To = codes "TO"
spelling words.On = codes "ON"
spelling words.Past = codes "PAST"
spelling words.Golft = codes "GOLFT"
spelling words.Gorgt = codes "GORGT"
spelling words.Gofwd = codes "GOFWD"
spelling words.Goback = codes "GOBACK"
spelling words.Rapid = codes "RAPID"
spelling words.Stop = codes "STOP"
spelling words.Opstop = codes "OPSTOP"
spelling words.End = codes "END"
spelling words.Fini = codes "FINI"
spelling words.Fedrat = codes "FEDRAT"
spelling words.Spindl = codes "SPINDL"
spelling words.Clw = codes "CLW"
spelling words.Cclw = codes "CCLW"
spelling words.Off = codes "OFF"
spelling words.Coolnt = codes "COOLNT"
spelling words.Flood = codes "FLOOD"
spelling words.Mist = codes "MIST"
spelling words.Loadtl = codes "LOADTL"
spelling words.Patern = codes "PATERN"
spelling words.Linear = codes "LINEAR"
spelling words.Cycle = codes "CYCLE"
spelling words.Drill = codes "DRILL"
spelling words.Macro = codes "MACRO"
spelling words.Termac = codes "TERMAC"
spelling words.Call = codes "CALL"
spelling words.Loopst = codes "LOOPST"
spelling words.Loopnd = codes "LOOPND"
spelling words.Jumpto = codes "JUMPTO"
spelling words.If = codes "IF"
spelling words.Sqrtf = codes "SQRTF"
spelling words.Absf = codes "ABSF"

-- in the order of lengths and of first letters
abbrev pub vocabulary : List Word
vocabulary =
    words.Go ∷ words.If ∷ words.Mm ∷ words.On ∷ words.To ∷ words.Clw ∷ words.End ∷ words.Off ∷ words.Absf ∷ words.Cclw ∷
    words.Call ∷ words.From ∷ words.Fini ∷ words.Goto ∷ words.Line ∷ words.Left ∷ words.Mist ∷ words.Past ∷ words.Stop ∷
    words.Tlon ∷ words.Cycle ∷ words.Drill ∷ words.Flood ∷ words.Golft ∷ words.Gorgt ∷ words.Gofwd ∷ words.Intof ∷ words.Intol ∷ words.Macro ∷
    words.Point ∷ words.Right ∷ words.Rapid ∷ words.Sqrtf ∷ words.Tanto ∷ words.Tllft ∷ words.Tlrgt ∷ words.Units ∷
    words.Clprnt ∷ words.Center ∷ words.Circle ∷ words.Cutter ∷ words.Coolnt ∷ words.Fedrat ∷ words.Godlta ∷ words.Goback ∷
    words.Inches ∷ words.Jumpto ∷ words.Linear ∷ words.Loadtl ∷ words.Loopst ∷ words.Loopnd ∷ words.Machin ∷ words.Nopost ∷ words.Outtol ∷
    words.Opstop ∷ words.Partno ∷ words.Patern ∷ words.Parlel ∷ words.Perpto ∷ words.Remark ∷ words.Radius ∷ words.Spindl ∷ words.Termac ∷
    words.Xlarge ∷ words.Xsmall ∷ words.Ylarge ∷ words.Ysmall ∷ []

-- the word that is spelled so, where there is one
unfoldable pub word_of : List ℕ → Option Word
word_of text = find (λ w. bytes_eq (spelling w) text) vocabulary
