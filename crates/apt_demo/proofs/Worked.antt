-- The least part, and a circle, which the checker works out.
use Rattle.std.specs.Prelude.{◌≡◌, codes}
use Rattle.std.specs.Fmt.{digits}
use Rattle.std.proofs.Common.{refl}
use Rattle.apt_demo.specs.Demo.{circle_block, demo_part}

one_circle : demo_part 1 ≡ codes "PARTNO DEMO 1\nCUTTER/.5\nFEDRAT/10\nFROM/-450,-450,.5\nTLRGT\nC=CIRCLE/-400,-200,1.00\nL=LINE/-400,-200,-399,-200\nRAPID\nGOTO/-398.00,-200,.5\nGODLTA/0,0,-.5\nGO/TO,C\nGORGT/C,ON,L\nGOFWD/C,ON,L\nGODLTA/0,0,.5\nFINI\n"
unfolding digits
one_circle = refl

-- the last circle of the greatest part
last_circle : circle_block 799 ≡ codes "C=CIRCLE/380,180,2.75\nL=LINE/380,180,381,180\nRAPID\nGOTO/383.75,180,.5\nGODLTA/0,0,-.5\nGO/TO,C\nGORGT/C,ON,L\nGOFWD/C,ON,L\nGODLTA/0,0,.5\n"
unfolding digits
last_circle = refl
