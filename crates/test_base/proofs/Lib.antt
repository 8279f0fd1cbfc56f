mod Growths
